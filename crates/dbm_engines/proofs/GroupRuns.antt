-- A group of pairs that were stored, as stores one after another.
use Rattle.std.proofs.Common.{◌≡◌, inl, inr, ⊎_elim, ℕ, ◌<◌, ◌≤◌, List, [], ◌∷◌, length, map, true, false, sym, ◌∙◌, ap, subst, arith}
use Rattle.dbm_model.specs.Calls.{Call, Replace, Reply, Stored}
use Rattle.dbm_model.specs.Changes.{replacing}
use Rattle.dbm_model.specs.FaultCount.{MoreFaults}
use Rattle.dbm_model.specs.Pairs.{Pair}
use Rattle.dbm_model.specs.States.{Handle}
use Rattle.dbm_model.specs.Steps.{Case, Tells, Refuses, Declines, Finds, Passes, Changes, case_of, Suffers, Step, Run}
use Rattle.dbm_model.proofs.StoreLemmas.{stays_usable}
use Rattle.page_io.specs.declared.store.PageStore.{Ghosts}
use Rattle.dbm_file.specs.Answers.{MayBeLeft, IsStep}
use Rattle.dbm_file.specs.Database.{page_state, IsAt}
use Rattle.dbm_file.specs.Held.{Held, held_by}
use Rattle.dbm_file.specs.Groups.{IsGroup}
use Rattle.dbm_file.specs.Runs.{MayBeLeftWithin, IsRun}
use Rattle.dbm_file.specs.declared.database.Database.{Database}
use Rattle.dbm_engines.proofs.RunsOn.{left_first}
use Rattle.dbm_engines.proofs.Survivals.{survives_among, survives_then}

more_still : (a b now : ℕ) → a ≤ b → MoreFaults b now → MoreFaults a now
more_still a b now le more = omega arith

-- a call suffers what it does after faults that were counted before it
suffers_still : (h : Handle) (n : ℕ) → h.faults ≤ n → (call : Call) (c : Case) (reply : Reply)
    (after : Handle) → Suffers (record h { faults = n }) call c reply after
    → Suffers h call c reply after
suffers_still h n le call (Tells said told) reply after is = is
suffers_still h n le call (Refuses fault) reply after is = is
suffers_still h n le call (Declines fault) reply after is =
    (is.0, more_still h.faults n after.faults le is.1, is.2)
suffers_still h n le call (Finds found) reply after (inl is) =
    inl (is.0, more_still h.faults n after.faults le is.1, is.2)
suffers_still h n le call (Finds found) reply after (inr is) = inr is
suffers_still h n le call (Passes from) reply after is =
    (is.0, more_still h.faults n after.faults le is.1, is.2)
suffers_still h n le call (Changes said next) reply after (inl is) =
    inl (is.0, more_still h.faults n after.faults le is.1, is.2)
suffers_still h n le call (Changes said next) reply after (inr (inl is)) =
    inr (inl (is.0, more_still h.faults n after.faults le is.1, is.2, is.3, is.4))
suffers_still h n le call (Changes said next) reply after (inr (inr is)) = inr (inr is)

step_still : (h : Handle) (n : ℕ) (call : Call) (reply : Reply) (after : Handle) → h.faults ≤ n
    → Step (record h { faults = n }) call reply after → Step h call reply after
step_still h n call reply after le step = record {
  counts = omega (arith, le, step.counts);
  capacity = step.capacity;
  pages = step.pages;
  bounded = step.bounded;
  buckets = step.buckets;
  answers = ⊎_elim (λ is. inl is)
      (λ is. inr (suffers_still h n le call (case_of h call) reply after is)) step.answers;
}

-- what is held after the last of some stores
left_last : (before after : Handle) (pair : Pair) (pairs : List Pair) (left : Held)
    → Run before (map replacing (pair ∷ pairs)) (map (λ _. Stored) (pair ∷ pairs)) after
    → left ≡ held_by after.state
    → MayBeLeftWithin before (map replacing (pair ∷ pairs)) (map (λ _. Stored) (pair ∷ pairs)) after
    left
left_last before after pair [] left run is =
    (run.0, run.1, inl (inr (inl (is ∙ ap (λ (x : Handle). held_by x.state) run.2)), run.2))
left_last before after pair (next ∷ pairs) left run is =
    (run.0, run.1, inr (left_last run.0 after next pairs left run.2 is))

-- after stores that were acknowledged the handle is usable
ends_usable : (before after : Handle) (pair : Pair) (pairs : List Pair)
    → Run before (map replacing (pair ∷ pairs)) (map (λ _. Stored) (pair ∷ pairs)) after
    → after.state.usable ≡ false → ⊥
ends_usable before after pair [] run now =
    stays_usable before run.0 pair.0 pair.1 Replace run.1
    (sym (ap (λ (x : Handle). x.state.usable) run.2) ∙ now)
ends_usable before after pair (next ∷ pairs) run now =
    ends_usable run.0 after next pairs run.2 now

-- it is a run
pub group_runs : {S : Type 0} (s : Ghosts S) (old new : Database S s) (h : Handle)
    (pairs : List Pair) → 0 < length pairs → IsGroup old new h pairs
    → IsRun old new h (map replacing pairs) (map (λ _. Stored) pairs)
group_runs s old new h [] some group = absurd (omega (arith, some))
group_runs s old new h (pair ∷ pairs) some group =
    let run : Run h (map replacing (pair ∷ pairs)) (map (λ _. Stored) (pair ∷ pairs)) group.after = (
      group.run.0,
      step_still h group.after.faults (replacing pair) Stored group.run.0 group.counts group.run.1,
      group.run.2,
    ) in
    record {
      after = group.after;
      run = run;
      is_at = group.is_at;
      survives = λ was. survives_among s old new
          (MayBeLeftWithin h (map replacing (pair ∷ pairs)) (map (λ _. Stored) (pair ∷ pairs)) group.after)
          _ (group.survives was) (λ left.
          ⊎_elim (λ is. left_first h group.after (map replacing (pair ∷ pairs))
          (map (λ _. Stored) (pair ∷ pairs)) left run is)
          (λ is. left_last h group.after pair pairs left run is));
      breaks = λ was now. absurd (ends_usable h group.after pair pairs run
          (ap (λ (x : Handle). x.state.usable) group.is_at.shows ∙ now));
    }

-- a call after a group of no pairs is that call
pub step_after_none : {S : Type 0} (s : Ghosts S) (old mid new : Database S s) (h : Handle)
    (call : Call) (reply : Reply) → IsAt old h
    → (none : IsGroup old mid h []) → IsStep mid new none.after call reply
    → IsStep old new h call reply
step_after_none s old mid new h call reply at none step = record {
  after = step.after;
  step = step_still h none.after.faults call reply step.after none.counts
      (subst (λ (x : Handle). Step x call reply step.after) none.run step.step);
  is_at = step.is_at;
  survives = λ was.
      survives_then s old mid new (MayBeLeft h step.after call) (MayBeLeft none.after step.after call)
      (survives_among s old mid (MayBeLeft h step.after call) _ (none.survives was) (λ left.
      ⊎_elim (λ is. inl is) (λ is. inl (is ∙ ap (λ (x : Handle). held_by x.state) none.run))))
      (step.survives (usable was))
      (λ left is. subst (λ (x : Handle). MayBeLeft x step.after call left) none.run is);
}
  where
    usable : (page_state old).usable ≡ true → (page_state mid).usable ≡ true
    usable was = sym (ap (λ (x : Handle). x.state.usable) none.is_at.shows)
        ∙ ap (λ (x : Handle). x.state.usable) none.run
        ∙ ap (λ (x : Handle). x.state.usable) at.shows ∙ was
