-- What is left of a call that a death cut short.
use Rattle.std.proofs.Common.{◌≡◌, inl, inr, ⊎_elim, ◌⊎◌, ℕ, ◌≤◌, ◌++◌, Bool, true, false, List, [], ◌∷◌, length, Option, refl, sym, ◌∙◌, ap, subst, arith}
use Rattle.dbm_file.specs.Answers.{MayBeLeft, IsStep}
use Rattle.dbm_file.specs.Database.{page_state}
use Rattle.dbm_file.specs.Held.{Held}
use Rattle.dbm_file.specs.Opened.{device_below}
use Rattle.dbm_model.proofs.CaseLemmas.{suits, Suits}
use Rattle.dbm_model.specs.Bounds.{Bounds}
use Rattle.dbm_model.specs.Calls.{Call, Reply, Fault}
use Rattle.dbm_model.specs.Members.{Member, Holding, held}
use Rattle.dbm_model.specs.Pairs.{Contents}
use Rattle.dbm_model.specs.States.{State, Pass, Handle}
use Rattle.dbm_model.specs.Steps.{Case, Tells, Refuses, Declines, Finds, Passes, Changes, Answers, Suffers, case_of, Step}
use Rattle.dbm_sharing.specs.Periods.{IsLeft}
use Rattle.listed_dev.specs.Listed.{history}
use Rattle.redo_area.specs.File.{settled}
use Rattle.sect_dev.specs.Device.{Image, IsImageOf}
use Rattle.sect_dev.specs.History.{IsCandidate, LeftSince, counts_now}
use Rattle.sect_dev.specs.declared.past.Event.{Event}
use Rattle.ndbm_c.proofs.Beside.{beside_handle, shifted}
use Rattle.ndbm_c.proofs.Standing.{StandsIn}
use Rattle.ndbm_c.specs.declared.handle.Opened.{Opened}

-- ---- moments

longer : (never done : List Event) → length done ≤ length (never ++ done)
longer [] done = omega arith
longer (event ∷ never) done = omega (arith, longer never done)

-- what a stop at a moment between may leave is left since the first
pub since : (never done : List Event) (t : ℕ) (image : Image) → t ≤ length done
    → IsImageOf (IsCandidate done) image → LeftSince (never ++ done) t image
since [] done t image le is = counts_now done t image is
since (event ∷ never) done t image le is =
    inr (omega (arith, le, longer never done), since never done t image le is)

-- ---- what a step leaves of the file

-- what there was, or what the rule changes to
abbrev Leaves : Handle → Case → State → Type 0
Leaves h c after = (held after ≡ held h.state)
    ⊎ ((said : Reply) × (next : State) × (c ≡ Changes said next) × (held after ≡ held next))

same_file : (s told : State) → told.map ≡ s.map → told.bounds ≡ s.bounds → held told ≡ held s
same_file s told map bounds = ap (λ (m : Contents). Holding m told.bounds) map
    ∙ ap (λ (b : Bounds). Holding s.map b) bounds

module _ (h after : Handle) (call : Call) (reply : Reply) where
  answer_leaves : (c : Case) → Suits h.state call c → Answers h.state c reply after.state
      → Leaves h c after.state
  answer_leaves (Tells said told) suit is =
      inl (ap held is.1 ∙ same_file h.state told suit.0 suit.3)
  answer_leaves (Refuses fault) suit is = inl (ap held is.1)
  answer_leaves (Declines fault) suit is = inl (ap held is.1)
  answer_leaves (Finds found) suit is = inl (ap held is.1)
  answer_leaves (Passes from) suit (inl over) = inl (ap held over.2)
  answer_leaves (Passes from) suit (inr given) = inl (ap held given.3)
  answer_leaves (Changes said next) suit is = inr (said, next, refl, ap held is.1)

  suffer_leaves : (c : Case) → Suffers h call c reply after → Leaves h c after.state
  suffer_leaves (Tells said told) is = absurd is
  suffer_leaves (Refuses fault) is = absurd is
  suffer_leaves (Declines fault) is = inl (ap held is.2)
  suffer_leaves (Finds found) (inl is) = inl (ap held is.2)
  suffer_leaves (Finds found) (inr is) = inl (ap held is.1)
  suffer_leaves (Passes from) is = inl (ap held is.2)
  suffer_leaves (Changes said next) (inl is) = inl (ap held is.2)
  suffer_leaves (Changes said next) (inr (inl is)) =
      ⊎_elim (λ old. inl (ap held is.4 ∙ ap held old))
      (λ new. inr (said, next, refl, ap held is.4 ∙ ap held new)) is.3
  suffer_leaves (Changes said next) (inr (inr (inl is))) = inl (ap held is.1)
  suffer_leaves (Changes said next) (inr (inr (inr is))) = inl (ap held is.2)

  pub step_leaves : Step h call reply after → Leaves h (case_of h call) after.state
  step_leaves step = ⊎_elim (answer_leaves (case_of h call) (suits h call))
      (suffer_leaves (case_of h call)) step.answers

-- ---- as the handle has it

-- all of the call was made, or nothing
abbrev pub Cuts : Handle → Call → Contents → Bounds → Type 0
Cuts first call map bounds =
    (made : Bool) × IsLeft made first.state (case_of first call) (Holding map bounds)

module _ (error : Option Fault) (pass : Pass) (writable : Bool) (h : Handle) (call asked : Call)
    (rule : case_of (beside_handle error pass writable h) call
    ≡ shifted error pass pass writable (case_of h asked)) where
  abbrev first : Handle
  first = beside_handle error pass writable h

  nothing_made : (left : Held) → Holding left.map left.bounds ≡ held h.state
      → Cuts first call left.map left.bounds
  nothing_made left is = (false, is)

  all_made : (left : Held) (said : Reply) (next : State) → case_of h asked ≡ Changes said next
      → Holding left.map left.bounds ≡ held next → Cuts first call left.map left.bounds
  all_made left said next changes is = (
    true,
    subst (λ (d : Case). IsLeft true first.state d (Holding left.map left.bounds))
        (sym (rule ∙ ap (shifted error pass pass writable) changes)) is,
  )

  abbrev of_held : Held → Member
  of_held left = Holding left.map left.bounds

  cut_so : (after : Handle) (reply : Reply) (left : Held) → Step h asked reply after
      → MayBeLeft h after asked left → Cuts first call left.map left.bounds
  cut_so after reply left step (inl old) = nothing_made left (ap of_held old)
  cut_so after reply left step (inr (inl new)) = ⊎_elim
      (λ same. nothing_made left (ap of_held new ∙ same))
      (λ changed. all_made left changed.0 changed.1 changed.2 (ap of_held new ∙ changed.3))
      (step_leaves h after asked reply step)
  cut_so after reply left step (inr (inr broke)) =
      let asks = broke.1 in all_made left asks.0 asks.1 asks.2 (ap of_held asks.3)

  -- whatever a stop may leave at a moment within the call
  pub moment_among : (old new : Opened) (reply : Reply) (never done : List Event) (capacity : ℕ)
      → IsStep old.db new.db h asked reply → (page_state old.db).usable ≡ true
      → (page_state new.db).capacity ≡ capacity
      → history (device_below new.db) ≡ never ++ done
      → length (history (device_below old.db)) ≤ length done
      → (image : Image) → IsImageOf (IsCandidate done) image
      → StandsIn (Cuts first call) (settled capacity image)
  moment_among old new reply never done capacity step usable size order le image is =
      let t = length (history (device_below old.db)) in
      let some = (step.survives usable).each (settled (page_state new.db).capacity image) (record {
        left = image;
        is_left = subst (λ (es : List Event). LeftSince es t image) (sym order)
            (since never done t image le is);
        reads = refl;
      }) in
      subst (StandsIn (Cuts first call)) (ap (λ (n : ℕ). settled n image) size) (record {
        map = some.0.map;
        bounds = some.0.bounds;
        among = cut_so step.after reply some.0 step.step some.1;
        stands = some.2;
      })
