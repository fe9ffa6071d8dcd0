-- A change that was done and whose writes the system then refused, as one that the device cut short.
use Rattle.std.proofs.Common.{◌≡◌, inl, inr, ◌⊎◌, ℕ, ◌+◌, ◌^◌, ◌-◌, pos, Bool, true, false, cond, not, List, Option, Some, None, refl, sym, ◌∙◌, ap, subst, arith}
use Rattle.std.proofs.Math.Nat.{min-le_left}
use Rattle.std.specs.FinMap.{get, len}
use Rattle.std.specs.Prelude.{nat_le}
use Rattle.dbm_model.specs.Calls.{Call, Store, Fetch, Delete, First, Next, Error, Clear, Upgrade, Mode, Insert, Replace, Reply, Refused, Fault, Memory, Device}
use Rattle.dbm_model.specs.Members.{held}
use Rattle.dbm_model.specs.Pairs.{is_allowed}
use Rattle.dbm_model.specs.States.{State, Pass, Handle, first_fault, flagged}
use Rattle.dbm_model.specs.Steps.{Case, Tells, Refuses, Declines, Finds, Passes, Changes, Answers, Suffers, stored, deleted, case_of, Step}
use Rattle.dbm_sharing.proofs.PeriodLemmas.{same_map, same_bounds}
use Rattle.dbm_sharing.specs.Handles.{Own, Shared, state_of, file_of, OthersStay, IsHandleAt}
use Rattle.dbm_sharing.specs.Periods.{IsLeft, IsCutByDevice}
use Rattle.ndbm_calls.specs.Statuses.{refusal_of, status_of}
use Rattle.ndbm_c.proofs.Readying.{same_state}
use Rattle.ndbm_c.specs.Periods.{made_of, IsOfPair}

-- ---- the rule of a change that was done

-- no refusal is told as done
never_done : (fault : Fault) → refusal_of fault ≡ pos 0 → ⊥
never_done Memory is = absurd (let x = is in cc)
never_done other is = absurd (let x = is in cc)

-- the rule tells of nothing that it is done but of a change
abbrev OnlyChanges : Case → Type 0
OnlyChanges (Tells said told) = ⊥
OnlyChanges (Finds found) = status_of found ≡ pos 0 → ⊥
OnlyChanges (Passes from) = ⊥
OnlyChanges (Refuses fault) = Unit {0}
OnlyChanges (Declines fault) = Unit {0}
OnlyChanges (Changes said next) = Unit {0}

one_of : (b : Bool) (x y : Case) → OnlyChanges x → OnlyChanges y → OnlyChanges (cond b x y)
one_of true x y is_x is_y = is_x
one_of false x y is_x is_y = is_y

stored_only : (s : State) (key content : List ℕ) (mode : Mode) (old : Option (List ℕ))
    → OnlyChanges (stored s key content mode old)
stored_only s key content Insert (Some old) = λ is. absurd (let x = is in cc)
stored_only s key content Replace (Some old) = tt
stored_only s key content Insert None = one_of (nat_le s.bounds.limit (len s.map)) _ _ tt tt
stored_only s key content Replace None = one_of (nat_le s.bounds.limit (len s.map)) _ _ tt tt

deleted_only : (s : State) (key : List ℕ) (old : Option (List ℕ)) → OnlyChanges (deleted s key old)
deleted_only s key None = λ is. absurd (let x = is in cc)
deleted_only s key (Some content) = tt

only_changes : (h : Handle) (call : Call) → IsOfPair call → OnlyChanges (case_of h call)
only_changes h (Store key content mode) is = let s = h.state in
    one_of s.usable _ _ (one_of (not s.writable) _ _ tt
    (one_of (is_allowed s.bounds.version (key, content)) _ _
    (stored_only s key content mode (get s.map key)) tt)) tt
only_changes h (Delete key) is = let s = h.state in
    one_of s.usable _ _ (one_of s.writable _ _ (deleted_only s key (get s.map key)) tt) tt
only_changes h (Fetch key) is = absurd is
only_changes h First is = absurd is
only_changes h Next is = absurd is
only_changes h Error is = absurd is
only_changes h Clear is = absurd is
only_changes h Upgrade is = absurd is

-- it is the rule of a change
abbrev pub IsChanging : Case → Type 0
IsChanging c = (said : Reply) × (next : State) × (c ≡ Changes said next)

module _ (h after : Handle) (call : Call) (reply : Reply) (done : status_of reply ≡ pos 0) where
  refused : (fault : Fault) (c : Case) → reply ≡ Refused fault → IsChanging c
  refused fault c is = absurd (never_done fault (sym (ap status_of is) ∙ done))

  by_rule : (c : Case) → OnlyChanges c
      → Answers h.state c reply after.state ⊎ Suffers h call c reply after → IsChanging c
  by_rule (Tells said told) only is = absurd only
  by_rule (Refuses fault) only (inl is) = refused fault (Refuses fault) is.0
  by_rule (Refuses fault) only (inr is) = absurd is
  by_rule (Declines fault) only (inl is) = refused fault (Declines fault) is.0
  by_rule (Declines fault) only (inr is) = refused Device (Declines fault) is.0
  by_rule (Finds found) only (inl is) = absurd (only (sym (ap status_of is.0) ∙ done))
  by_rule (Finds found) only (inr (inl is)) = refused Device (Finds found) is.0
  by_rule (Finds found) only (inr (inr is)) = refused Memory (Finds found) is.0
  by_rule (Passes from) only is = absurd only
  by_rule (Changes said next) only is = (said, next, refl)

  pub done_changes : IsOfPair call → Step h call reply after → IsChanging (case_of h call)
  done_changes pair step = by_rule (case_of h call) (only_changes h call pair) step.answers

-- such a call is made as it is
pub made_as_is : (call : Call) (pass : Pass) → IsOfPair call → made_of call pass ≡ call
made_as_is (Store key content mode) pass is = refl
made_as_is (Delete key) pass is = refl
made_as_is (Fetch key) pass is = absurd is
made_as_is First pass is = absurd is
made_as_is Next pass is = absurd is
made_as_is Error pass is = absurd is
made_as_is Clear pass is = absurd is
made_as_is Upgrade pass is = absurd is

-- ---- a break

module _ (pages : ℕ) (before after : Shared) (who : ℕ) (call : Call) (first : Handle)
    (said : Reply) (next : State) (begins : IsHandleAt pages (state_of before who) first)
    (rule : case_of first call ≡ Changes said next)
    (own : after.own who ≡ record {
      error = first_fault first.state.error Device;
      pass = first.state.pass;
      writable = first.state.writable;
    }) (others : OthersStay who before after) where
  abbrev broken : State → Handle
  broken left = record first {
    faults = first.faults + 1;
    state = record (flagged Device first.state) {
      map = left.map;
      bounds = left.bounds;
      usable = false;
    };
  }

  breaks_so : (left : State) → (left ≡ first.state) ⊎ (left ≡ next)
      → Step first call (Refused Device) (broken left)
  breaks_so left either = record {
    counts = omega arith;
    capacity = refl;
    pages = (omega arith, omega arith);
    bounded = inl refl;
    buckets = omega arith;
    answers = inr (subst (λ (d : Case). Suffers first call d (Refused Device) (broken left))
        (sym rule)
        (inr (inl (refl, min-le_left (first.faults + 1) (2 ^ 64 - 1), left, either, refl))));
  }

  cut_at : (made : Bool) (left : State) → (left ≡ first.state) ⊎ (left ≡ next)
      → IsLeft made first.state (case_of first call) (held left) → file_of after ≡ held left
      → IsCutByDevice pages before who call made after
  cut_at made left either is same = record {
    first = first;
    begins = begins;
    broken = broken left;
    step = breaks_so left either;
    breaks = refl;
    left = is;
    ends = same_state (state_of after who) (record (broken left).state { usable = true })
        (same_map after.map left.map after.bounds left.bounds same)
        (same_bounds after.map left.map after.bounds left.bounds same)
        (ap (λ (o : Own). o.error) own) (ap (λ (o : Own). o.pass) own)
        (ap (λ (o : Own). o.writable) own) refl;
    others = others;
  }

  pub cut_by_device : (made : Bool)
      → IsLeft made first.state (case_of first call) (file_of after)
      → IsCutByDevice pages before who call made after
  cut_by_device false is = cut_at false first.state (inl refl) refl is
  cut_by_device true is =
      let same = subst (λ (c : Case). IsLeft true first.state c (file_of after)) rule is in
      cut_at true next (inr refl)
      (subst (λ (c : Case). IsLeft true first.state c (held next)) (sym rule) refl) same
