-- A file_history that is kept, for any changes.
use Rattle.std.proofs.Common.{◌≡◌, ◌≢◌, ◌+◌, ◌/◌, ◌<◌, ◌≤◌, ℕ, zero, suc, Bool, true, false, if◌then◌else◌, List, length, inl, inr, refl, sym, ap, subst, ◌∙◌, arith, ◌==◌}
use Rattle.std.proofs.lemmas.List.{length-replicate}
use Rattle.std.proofs.lemmas.Bool.{true≢false, cases_lt}
use Rattle.std.proofs.Math.Nat.{mul-div_cancel}
use Rattle.sect_dev.specs.declared.past.Event.{Event}
use Rattle.sect_dev.specs.Device.{NoNewCandidate, sector_count, part_of, IsRunPartlyWritten, with_run_candidates}
use Rattle.sect_dev.specs.Moments.{at_same, at_other, outside_run}
use Rattle.sect_dev.specs.Sector.{zeros}
use Rattle.sect_dev.specs.History.{content_after, IsCandidate, content_is_candidate}
use Rattle.sect_dev.specs.FileHistory.{Change, KeepsChange, KeepsWrite}
use Rattle.sect_dev.specs.FileHistory.Change.{Writes, Syncs}
use Rattle.sect_dev.specs.Kept.{wrote_parts, noted, record_of, PremiseCanBeMet}
use Rattle.sect_dev.proofs.Events.{synced_adds_none}
use Rattle.sect_dev.proofs.Parts.{part_fits, part_size}
use Rattle.sect_dev.proofs.RunSteps.{partly_more}

zeros_whole : length zeros ≡ 512
unfolding zeros
zeros_whole = length-replicate {A = ℕ} 512 0

-- each sector of the record is whole
abbrev IsWhole : List Event → Type 0
IsWhole events = (n : ℕ) → length (content_after events n) ≡ 512

one_length : (part before : List ℕ) → length part ≡ 512 → length before ≡ 512 → (here : Bool)
    → length (if here then part else before) ≡ 512
one_length part before one other true = one
one_length part before one other false = other

after_parts : (n : ℕ) (bytes : List ℕ) (events : List Event) → IsWhole events → (count : ℕ)
    → count ≤ sector_count bytes → IsWhole (wrote_parts n bytes count events)
after_parts n bytes events before zero fits m = before m
after_parts n bytes events before (suc k) fits m =
    one_length (part_of bytes k) (content_after (wrote_parts n bytes k events) m)
    (part_size bytes k (part_fits bytes k (omega (arith, fits))))
    (after_parts n bytes events before k (omega (arith, fits)) m) (m == (n + k))

whole_after : (change : Change) (events : List Event) → IsWhole events
    → IsWhole (noted change events)
whole_after (Writes at bytes true) events before =
    after_parts (at / 512) bytes events before (sector_count bytes) (omega arith)
whole_after (Writes at bytes false) events before = before
whole_after (Syncs true) events before = before
whole_after (Syncs false) events before = before

whole : (changes : ℕ → Change) (t : ℕ) → IsWhole (record_of changes t)
whole changes zero n = zeros_whole
whole changes (suc t) n = whole_after (changes t) (record_of changes t) (whole changes t) n

-- after the writes of a run's sectors
module _ (n : ℕ) (bytes : List ℕ) (events : List Event) where
  parts_seen : (count : ℕ) (j : ℕ) → j < count
      → content_after (wrote_parts n bytes count events) (n + j) ≡ part_of bytes j
  parts_seen zero j less = absurd (omega (arith, less))
  parts_seen (suc k) j less = elim (cases_lt j k) [
    | inl early ↦ at_other (content_after (wrote_parts n bytes k events)) (n + k) (part_of bytes k)
        (n + j) (apart early) ∙ parts_seen k j early
    | inr late ↦
        let last : j ≡ k = omega (arith, less, late) in
        at_same (content_after (wrote_parts n bytes k events)) (n + k) (part_of bytes k) (n + j)
        (ap (λ (i : ℕ). n + i) last) ∙ ap (part_of bytes) (sym last)
  ]
    where
      apart : j < k → n + j ≢ n + k
      apart early same = omega (arith, early, same)

  parts_candidates : (count : ℕ) → count ≤ sector_count bytes
      → NoNewCandidate (with_run_candidates (IsCandidate events) n bytes)
      (IsCandidate (wrote_parts n bytes count events))
  parts_candidates zero fits m c is = inl is
  parts_candidates (suc k) fits m c (inl before) =
      parts_candidates k (omega (arith, fits)) m c before
  parts_candidates (suc k) fits m c (inr here) = inr record {
    k = k;
    within = omega (arith, fits);
    place = here.0;
    same = here.1;
  }

  parts_keep : (count : ℕ) → NoNewCandidate (IsCandidate (wrote_parts n bytes count events))
      (IsCandidate events)
  parts_keep zero m c is = is
  parts_keep (suc k) m c is = inl (parts_keep k m c is)

  parts_partly : (count : ℕ) → count ≤ sector_count bytes
      → IsRunPartlyWritten (content_after events) n bytes
      (content_after (wrote_parts n bytes count events))
  parts_partly zero fits m = inl refl
  parts_partly (suc k) fits m = partly_more n k bytes (part_of bytes k) (omega (arith, fits)) refl
      (content_after events) (content_after (wrote_parts n bytes k events))
      (content_after (wrote_parts n bytes (suc k) events))
      (parts_partly k (omega (arith, fits))) (inr refl) m

  keeps_parts : KeepsWrite n bytes true (content_after events)
      (content_after (wrote_parts n bytes (sector_count bytes) events)) (IsCandidate events)
      (IsCandidate (wrote_parts n bytes (sector_count bytes) events))
  keeps_parts =
      let count = sector_count bytes in
      let partly = parts_partly count (omega arith) in
      record {
        written = λ ok. record {
          inside = parts_seen count;
          outside = outside_run n bytes (content_after events)
              (content_after (wrote_parts n bytes count events)) partly;
        };
        failed = partly;
        candidates = parts_candidates count (omega arith);
        keeps = parts_keep count;
      }

keeps_after : (change : Change) (events : List Event)
    → KeepsChange change (content_after events) (content_after (noted change events))
    (IsCandidate events) (IsCandidate (noted change events))
keeps_after (Writes at bytes true) events = λ n count place size.
    let is : at / 512 ≡ n =
    ap (λ (a : ℕ). a / 512) place ∙ mul-div_cancel n (omega arith) in
    subst (λ (first : ℕ).
    KeepsWrite n bytes true (content_after events)
    (content_after (wrote_parts first bytes (sector_count bytes) events))
    (IsCandidate events) (IsCandidate (wrote_parts first bytes (sector_count bytes) events)))
    (sym is) (keeps_parts n bytes events)
keeps_after (Writes at bytes false) events = λ n count place size.
    record {
      written = λ ok. absurd (true≢false (sym ok));
      failed = λ m. inl refl;
      candidates = λ m c is.
          inl is;
      keeps = λ m c is. is;
    }
keeps_after (Syncs true) events =
    record {
      stable = λ ok m c is. is;
      seen = λ ok. refl;
      candidates = synced_adds_none events;
      keeps = λ failed. absurd (true≢false failed);
    }
keeps_after (Syncs false) events =
    record {
      stable = λ ok. absurd (true≢false (sym ok));
      seen = λ ok. refl;
      candidates = λ m c is.
          is;
      keeps = λ failed m c is. is;
    }

keeps_next : (changes : ℕ → Change) (t next : ℕ) → suc t ≡ next
    → KeepsChange (changes t) (content_after (record_of changes t))
    (content_after (record_of changes next)) (IsCandidate (record_of changes t))
    (IsCandidate (record_of changes next))
keeps_next changes t next is =
    let events = record_of changes t in
    subst (λ (k : ℕ). KeepsChange (changes t) (content_after events)
    (content_after (record_of changes k)) (IsCandidate events)
    (IsCandidate (record_of changes k)))
    is (keeps_after (changes t) events)

pub premise_can_be_met : PremiseCanBeMet
premise_can_be_met changes = record {
  whole = whole changes;
  may_stay = λ t. content_is_candidate (record_of changes t);
  reads = λ t at bytes gave. gave;
  keeps = λ t. keeps_next changes t (t + 1) (omega arith);
}
