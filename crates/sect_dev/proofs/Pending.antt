-- The writes since the last sync, and what is kept of them.
use Rattle.std.proofs.Common.{◌≡◌, ◌<◌, ◌≤◌, ℕ, suc, ◌+◌, List, [], ◌∷◌, ◌++◌, length, take, drop, reverse, Bool, true, false, cond, refl, sym, ◌∙◌, ap, arith}
use Rattle.std.proofs.lemmas.List.{take-append-drop, reverse-append, length-reverse, length-take-le}
use Rattle.std.specs.Prelude.{slice_index_or}
use Rattle.sect_dev.specs.declared.past.Event.{Event}
use Rattle.sect_dev.specs.declared.past.Event.TheVariants.{Wrote, Synced}
use Rattle.sect_dev.specs.Device.{Image, with_sector}
use Rattle.sect_dev.specs.History.{content_after, at_last_sync, pending_of, kept}

-- where all of these are writes that may be lost, so are all of the older ones
all_pending : (newer mid synced : List Event)
    → pending_of (newer ++ mid ++ synced) ≡ length (newer ++ mid)
    → pending_of (mid ++ synced) ≡ length mid
all_pending [] mid synced all = all
all_pending (Wrote n bytes ∷ newer) mid synced all =
    all_pending newer mid synced (omega (arith, all))
all_pending (Synced ∷ newer) mid synced all = absurd (omega (arith, all))

-- the record of the last sync lacks what is pending, and nothing else
pub last_and_pending : (events : List Event)
    → length (at_last_sync events) + pending_of events ≡ length events
last_and_pending [] = refl
last_and_pending (Wrote n bytes ∷ earlier) = omega (arith, last_and_pending earlier)
last_and_pending (Synced ∷ earlier) = omega arith

-- with none pending, all is kept
pub none_pending : (events : List Event) (marks : List Bool) → pending_of events ≡ 0
    → content_after events ≡ kept events marks
none_pending [] marks none = refl
none_pending (Wrote n bytes ∷ earlier) marks none = absurd (omega (arith, none))
none_pending (Synced ∷ earlier) marks none = refl

-- one write more
one_more : (event : Event) (earlier : List Event) (marks : List Bool) (mark : Bool) (i : ℕ)
    (all : List Event)
    → pending_of (event ∷ earlier) ≡ suc i → pending_of earlier ≡ i
    → slice_index_or marks i false ≡ mark → content_after all ≡ kept earlier marks
    → content_after (cond mark (event ∷ all) all) ≡ kept (event ∷ earlier) marks
one_more Synced earlier marks mark i all some few is so_far = absurd (omega (arith, some))
one_more (Wrote n bytes) earlier marks mark i all some few is so_far =
    by_mark n bytes all (kept earlier marks) so_far mark
    ∙ ap (λ b. cond b (with_sector (kept earlier marks) n bytes) (kept earlier marks))
    (sym is ∙ ap (λ (k : ℕ). slice_index_or marks k false) (sym few))
  where
    by_mark : (n : ℕ) (bytes : List ℕ) (all : List Event) (image : Image)
        → content_after all ≡ image → (mark : Bool)
        → content_after (cond mark (Wrote n bytes ∷ all) all)
        ≡ cond mark (with_sector image n bytes) image
    by_mark n bytes all image is true = ap (λ (before : Image). with_sector before n bytes) is
    by_mark n bytes all image is false = is

-- writes, the oldest first, all of them after the last sync
module _ (writes base : List Event)
    (all : pending_of (reverse writes ++ base) ≡ length writes) where
  pub pending_at : (i : ℕ) → i ≤ length writes → pending_of (reverse (take i writes) ++ base) ≡ i
  pending_at i within =
      let parts : reverse writes ≡ reverse (drop i writes) ++ reverse (take i writes) =
      ap reverse (sym (take-append-drop i writes))
      ∙ reverse-append (take i writes) (drop i writes) in
      let whole : pending_of (reverse (drop i writes) ++ reverse (take i writes) ++ base)
      ≡ length writes = ap (λ (l : List Event). pending_of (l ++ base)) (sym parts) ∙ all in
      let size : length (reverse (drop i writes) ++ reverse (take i writes)) ≡ length writes =
      ap length (sym parts) ∙ length-reverse writes in
      all_pending (reverse (drop i writes)) (reverse (take i writes)) base (whole ∙ sym size)
      ∙ length-reverse (take i writes) ∙ length-take-le i writes within

  -- before the first
  pub first : (marks : List Bool) → content_after base ≡ kept base marks
  first marks = none_pending base marks (pending_at 0 (omega arith))

  -- one more, added if it has a mark
  pub next : (old new : List Event) (marks : List Bool) (i : ℕ) (event : Event) → i < length writes
      → take (i + 1) writes ≡ take i writes ++ event ∷ []
      → new ≡ cond (slice_index_or marks i false) (event ∷ old) old
      → content_after old ≡ kept (reverse (take i writes) ++ base) marks
      → content_after new ≡ kept (reverse (take (i + 1) writes) ++ base) marks
  next old new marks i event within taken added so_far =
      let earlier = reverse (take i writes) ++ base in
      let grown : reverse (take (i + 1) writes) ++ base ≡ event ∷ earlier =
      ap (λ (l : List Event). reverse l ++ base) taken
      ∙ ap (λ (l : List Event). l ++ base) (reverse-append (take i writes) (event ∷ [])) in
      let some : pending_of (event ∷ earlier) ≡ suc i =
      ap pending_of (sym grown) ∙ pending_at (i + 1) (omega (arith, within)) ∙ omega arith in
      ap content_after added
      ∙ one_more event earlier marks (slice_index_or marks i false) i old some
      (pending_at i (omega (arith, within))) refl so_far
      ∙ ap (λ (l : List Event). kept l marks) (sym grown)
