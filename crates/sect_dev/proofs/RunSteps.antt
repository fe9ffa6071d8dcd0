-- Calls on adjacent sectors, one after the other.
use Rattle.std.proofs.Common.{◌≡◌, ◌≢◌, ◌⊎◌, ◌∙◌, ◌↔◌, ⊎_elim, inl, inr, refl, sym, ap, subst, ℕ, ◌+◌, ◌<◌, ◌≤◌, List, Result, below_more, arith}
use Rattle.std.proofs.lemmas.Bool.{cases_eq}
use Rattle.sect_dev.specs.Device.{Image, Candidates, with_sector, with_candidate, IsImageOf, NoNewCandidate, IsWrittenOrNot, Moment, Elapses, HasCause, MoreFaults, sector_count, part_of, IsPart, IsRunPartlyWritten, with_run_candidates}
use Rattle.sect_dev.specs.Moments.{fewer_images, at_same, at_other}
use Rattle.sect_dev.proofs.Refusing.{no_time}
use Rattle.sect_dev.proofs.Results.{on_err}

elapses_then : {X : Type 0} (before mid now : Moment) (past since left : ℕ → X → Type 0)
    (may_first may_leave : X → Type 0)
    → Elapses before mid past since may_first → Elapses mid now since left may_leave
    → ((x : X) → may_first x → may_leave x) → Elapses before now past left may_leave
elapses_then before mid now past since left may_first may_leave first second stays = record {
  later = omega (arith, first.later, second.later);
  until = omega (arith, first.until, second.until);
  nothing_else = λ t x le is. ⊎_elim
      (λ earlier. ⊎_elim (λ old. inl old) (λ may. inr (stays x may))
      (first.nothing_else t x le earlier))
      (λ may. inr may) (second.nothing_else t x (omega (arith, le, first.later)) is);
  keeps = λ t x le is. second.keeps t x (omega (arith, le, first.later)) (first.keeps t x le is);
}

-- what holds after any reads and writes of a device
pub record WentOn {D : Type 0} (sectors faults : D → ℕ) (moment : D → Moment)
    (honest : D → Type 0) (candidate : D → Candidates) (left_since : D → ℕ → Image → Type 0)
    (first now : D) : Type 0 where
  pub size : sectors now ≡ sectors first
  pub honesty : honest now ↔ honest first
  pub later : faults first ≤ faults now
  pub keeps : honest first → NoNewCandidate (candidate now) (candidate first)
  pub time : honest first → Elapses (moment first) (moment now) (left_since first)
      (left_since now) (IsImageOf (candidate now))

module _ {D : Type 0} (sectors faults : D → ℕ) (moment : D → Moment)
    (honest : D → Type 0) (candidate : D → Candidates) (left_since : D → ℕ → Image → Type 0) where
  pub before_all : (first : D)
      → WentOn sectors faults moment honest candidate left_since first first
  before_all first = record {
    size = refl;
    honesty = (λ h. h, λ h. h);
    later = omega arith;
    keeps = λ h m c is. is;
    time = λ h. no_time (moment first) (left_since first) (IsImageOf (candidate first));
  }

  pub one_more : (first mid now : D)
      → WentOn sectors faults moment honest candidate left_since first mid
      → sectors now ≡ sectors mid → honest now ↔ honest mid → faults mid ≤ faults now
      → (honest mid → NoNewCandidate (candidate now) (candidate mid))
      → (honest mid → Elapses (moment mid) (moment now) (left_since mid) (left_since now)
      (IsImageOf (candidate now)))
      → WentOn sectors faults moment honest candidate left_since first now
  one_more first mid now went size honesty more keeps time = record {
    size = size ∙ went.size;
    honesty = (λ h. went.honesty.0 (honesty.0 h), λ h. honesty.1 (went.honesty.1 h));
    later = omega (arith, went.later, more);
    keeps = λ h m c is. keeps (went.honesty.1 h) m c (went.keeps h m c is);
    time = λ h.
        let still = went.honesty.1 h in
        elapses_then (moment first) (moment mid) (moment now) (left_since first) (left_since mid)
        (left_since now) (IsImageOf (candidate mid)) (IsImageOf (candidate now)) (went.time h)
        (time still) (λ image is. fewer_images (candidate now) (candidate mid) image
        (keeps still) is);
  }

-- a call failed, after some that did not
pub cause_after : {T E : Type 0} (first mid now : ℕ) (r : Result T E) → first ≤ mid
    → mid ≤ now → MoreFaults mid now → HasCause first now r
cause_after first mid now r before later more = record {
  later = omega (arith, before, later);
  fault = on_err r (MoreFaults first now) (λ failed. omega (arith, before, more));
}

-- the write of one sector of a run
module _ (n k : ℕ) (bytes content : List ℕ) (within : k < sector_count bytes)
    (is : content ≡ part_of bytes k) where
  pub is_part_here : (m : ℕ) (c : List ℕ) → m ≡ n + k → c ≡ content → IsPart n bytes m c
  is_part_here m c place same = record { k = k; within = within; place = place; same = same ∙ is }

  pub candidates_more : (first mid new : Candidates)
      → NoNewCandidate (with_run_candidates first n bytes) mid
      → NoNewCandidate (with_candidate mid (n + k) content) new
      → NoNewCandidate (with_run_candidates first n bytes) new
  candidates_more first mid new before step m c may = ⊎_elim (λ old. before m c old)
      (λ added. inr (is_part_here m c added.0 added.1)) (step m c may)

  module _ (old mid new : Image) where
    unchanged : IsRunPartlyWritten old n bytes mid → (m : ℕ) → new m ≡ mid m
        → (new m ≡ old m) ⊎ IsPart n bytes m (new m)
    unchanged before m same = ⊎_elim (λ is_old. inl (same ∙ is_old))
        (λ part. inr (subst (IsPart n bytes m) (sym same) part)) (before m)

    pub partly_more : IsRunPartlyWritten old n bytes mid
        → IsWrittenOrNot mid (n + k) content new → IsRunPartlyWritten old n bytes new
    partly_more before (inl none) m = unchanged before m (ap (λ (s : Image). s m) none)
    partly_more before (inr written) m = elim (cases_eq m (n + k)) [
      | inl same ↦ inr (is_part_here m (new m) same (ap (λ (s : Image). s m) written
          ∙ at_same mid (n + k) content m same))
      | inr other ↦ unchanged before m (ap (λ (s : Image). s m) written
          ∙ at_other mid (n + k) content m other)
    ]

    pub written_more : ((j : ℕ) → j < k → mid (n + j) ≡ part_of bytes j)
        → new ≡ with_sector mid (n + k) content → (j : ℕ) → j < k + 1
        → new (n + j) ≡ part_of bytes j
    written_more before written = below_more (λ j. new (n + j) ≡ part_of bytes j) k
        (λ j less. ap (λ (s : Image). s (n + j)) written
        ∙ at_other mid (n + k) content (n + j) (apart j less) ∙ before j less)
        (ap (λ (s : Image). s (n + k)) written ∙ at_same mid (n + k) content (n + k) refl ∙ is)
      where
        apart : (j : ℕ) → j < k → n + j ≢ n + k
        apart j less same = omega (arith, less, same)
