-- What stays of a handle: its first fault, its limit and access, and its map where it was opened
-- for reading.
use Rattle.std.proofs.Common.{◌≡◌, inl, inr, ⊎_elim, Bool, true, false, cond, None, refl, sym, ◌∙◌, ap, subst}
use Rattle.dbm_model.specs.Bounds.{Bounds}
use Rattle.dbm_model.specs.Calls.{Call, Error, Clear, Reply, Number, Refused, Fault, Memory, Device, NoRoom}
use Rattle.dbm_model.specs.States.{State, Handle, first_fault, error_number, flagged}
use Rattle.dbm_model.specs.Steps.{Case, Tells, Refuses, Declines, Finds, Passes, Changes, usable_case, case_of, Answers, Suffers, Step}
use Rattle.dbm_model.specs.Refusals.{MayChange, ReadingKeeps, SettingsStay, ErrorIsTold, ErrorIsCleared, FirstFaultIsKept}
use Rattle.dbm_model.proofs.CaseLemmas.{Suits, suits}
use Rattle.dbm_model.proofs.RefusalLemmas.{AreDue, Explains, IsNoRefusal, same_fault, explains}
use Rattle.dbm_model.proofs.RuleLemmas.{ByCase, falls}

both_ways : (b : Bool) (c : Case) → cond b c c ≡ c
both_ways true c = refl
both_ways false c = refl

told_by : (before after : Handle) (call : Call) (reply said : Reply) (told : State)
    → ByCase before call (Tells said told) reply after → (reply ≡ said) × (after.state ≡ told)
told_by before after call reply said told (inl is) = is
told_by before after call reply said told (inr is) = absurd is

pub error_told : ErrorIsTold
error_told before after reply step =
    told_by before after Error reply (Number (error_number before.state.error)) before.state
    (falls before after Error reply (usable_case before.capacity before.state Error)
    (both_ways before.state.usable (usable_case before.capacity before.state Error)) step)

pub error_cleared : ErrorIsCleared
error_cleared before after reply step =
    told_by before after Clear reply (Number 0) (record before.state { error = None })
    (falls before after Clear reply (usable_case before.capacity before.state Clear)
    (both_ways before.state.usable (usable_case before.capacity before.state Clear)) step)

-- a state that was flagged by the fault of the rule
flagged_error : (s after : State) (fault other : Fault) → Refused fault ≡ Refused other
    → after ≡ flagged other s → after.error ≡ first_fault s.error fault
flagged_error s after fault other is left =
    ap (λ (t : State). t.error) left ∙ ap (first_fault s.error) (same_fault fault other is)

kept_answer : (before after : Handle) (call : Call) (c : Case) (fault : Fault)
    → Explains before call c → Answers before.state c (Refused fault) after.state
    → after.state.error ≡ first_fault before.state.error fault
kept_answer before after call (Tells said told) fault why is =
    absurd (subst IsNoRefusal (sym is.0) why)
kept_answer before after call (Refuses other) fault why is =
    flagged_error before.state after.state fault other is.0 is.1
kept_answer before after call (Declines other) fault why is =
    flagged_error before.state after.state fault other is.0 is.1
kept_answer before after call (Finds found) fault why is =
    absurd (subst IsNoRefusal (sym is.0) why.1)
kept_answer before after call (Passes from) fault why (inl end) =
    absurd (subst IsNoRefusal (sym end.1) tt)
kept_answer before after call (Passes from) fault why (inr given) =
    absurd (subst IsNoRefusal (sym given.2) tt)
kept_answer before after call (Changes said next) fault why is =
    absurd (subst IsNoRefusal (sym is.0) why.2)

kept_suffered : (before after : Handle) (call : Call) (c : Case) (fault : Fault)
    → Suffers before call c (Refused fault) after
    → after.state.error ≡ first_fault before.state.error fault
kept_suffered before after call (Tells said told) fault is = absurd is
kept_suffered before after call (Refuses other) fault is = absurd is
kept_suffered before after call (Declines other) fault is =
    flagged_error before.state after.state fault Device is.0 is.2
kept_suffered before after call (Finds found) fault (inl fails) =
    flagged_error before.state after.state fault Device fails.0 fails.2
kept_suffered before after call (Finds found) fault (inr memory) =
    flagged_error before.state after.state fault Memory memory.0 memory.1
kept_suffered before after call (Passes from) fault is =
    flagged_error before.state after.state fault Device is.0 is.2
kept_suffered before after call (Changes said next) fault (inl fails) =
    flagged_error before.state after.state fault Device fails.0 fails.2
kept_suffered before after call (Changes said next) fault (inr (inl breaks)) =
    ap (λ (t : State). t.error) breaks.4
    ∙ ap (first_fault before.state.error) (same_fault fault Device breaks.0)
kept_suffered before after call (Changes said next) fault (inr (inr (inl memory))) =
    flagged_error before.state after.state fault Memory memory.0 memory.1
kept_suffered before after call (Changes said next) fault (inr (inr (inr room))) =
    flagged_error before.state after.state fault NoRoom room.0 room.2

pub first_kept : FirstFaultIsKept
first_kept before after call fault step =
    ⊎_elim (kept_answer before after call (case_of before call) fault
    (explains before call))
    (kept_suffered before after call (case_of before call) fault) step.answers

-- the bounds, the map and the access of a handle that nothing changes
record Stays (h : Handle) (call : Call) (after : State) : Type 0 where
  pub bounds_are : AreDue h call after.bounds
  pub writable : after.writable ≡ h.state.writable
  pub map : h.state.writable ≡ false → after.map ≡ h.state.map

stays_same : (h : Handle) (call : Call) (after : State) → after.map ≡ h.state.map
    → after.bounds ≡ h.state.bounds → after.writable ≡ h.state.writable → Stays h call after
stays_same h call after map bounds writable = record {
  bounds_are = inl bounds;
  writable = writable;
  map = λ reading. map;
}

stays_flagged : (h : Handle) (call : Call) (after : State) (fault : Fault)
    → after ≡ flagged fault h.state → Stays h call after
stays_flagged h call after fault is =
    stays_same h call after (ap (λ (t : State). t.map) is) (ap (λ (t : State). t.bounds) is)
    (ap (λ (t : State). t.writable) is)

-- no handle for reading may change its map
not_both : (s : State) → MayChange s → s.writable ≡ false → ⊥
not_both s may reading = let writable = may.writable in cc

stays_answer : (h : Handle) (after : State) (call : Call) (c : Case) (reply : Reply)
    → Explains h call c → Suits h.state call c → Answers h.state c reply after → Stays h call after
stays_answer h after call (Tells said told) reply why fits is =
    stays_same h call after (ap (λ (t : State). t.map) is.1 ∙ fits.0)
    (ap (λ (t : State). t.bounds) is.1 ∙ fits.3) (ap (λ (t : State). t.writable) is.1 ∙ fits.4)
stays_answer h after call (Refuses fault) reply why fits is = stays_flagged h call after fault is.1
stays_answer h after call (Declines fault) reply why fits is = stays_flagged h call after fault is.1
stays_answer h after call (Finds found) reply why fits is =
    stays_same h call after (ap (λ (t : State). t.map) is.1) (ap (λ (t : State). t.bounds) is.1)
    (ap (λ (t : State). t.writable) is.1)
stays_answer h after call (Passes from) reply why fits (inl end) =
    stays_same h call after (ap (λ (t : State). t.map) end.2) (ap (λ (t : State). t.bounds) end.2)
    (ap (λ (t : State). t.writable) end.2)
stays_answer h after call (Passes from) reply why fits (inr given) =
    stays_same h call after (ap (λ (t : State). t.map) given.3)
    (ap (λ (t : State). t.bounds) given.3) (ap (λ (t : State). t.writable) given.3)
stays_answer h after call (Changes said next) reply why fits is = record {
  bounds_are = subst (AreDue h call) (sym (ap (λ (t : State). t.bounds) is.1)) why.3;
  writable = ap (λ (t : State). t.writable) (is.1 ∙ fits.rest);
  map = λ reading. absurd (not_both h.state why.0 reading);
}

stays_suffered : (before after : Handle) (call : Call) (c : Case) (reply : Reply)
    → Explains before call c → Suffers before call c reply after → Stays before call after.state
stays_suffered before after call (Tells said told) reply why is = absurd is
stays_suffered before after call (Refuses fault) reply why is = absurd is
stays_suffered before after call (Declines fault) reply why is =
    stays_flagged before call after.state Device is.2
stays_suffered before after call (Finds found) reply why (inl fails) =
    stays_flagged before call after.state Device fails.2
stays_suffered before after call (Finds found) reply why (inr memory) =
    stays_flagged before call after.state Memory memory.1
stays_suffered before after call (Passes from) reply why is =
    stays_flagged before call after.state Device is.2
stays_suffered before after call (Changes said next) reply why (inl fails) =
    stays_flagged before call after.state Device fails.2
stays_suffered before after call (Changes said next) reply why (inr (inl breaks)) = record {
  bounds_are = subst (AreDue before call) (sym (ap (λ (t : State). t.bounds) breaks.4))
      (⊎_elim (λ old. inl (ap (λ (t : State). t.bounds) old))
      (λ new. subst (AreDue before call) (sym (ap (λ (t : State). t.bounds) new)) why.3) breaks.3);
  writable = ap (λ (t : State). t.writable) breaks.4;
  map = λ reading. absurd (not_both before.state why.0 reading);
}
stays_suffered before after call (Changes said next) reply why (inr (inr (inl memory))) =
    stays_flagged before call after.state Memory memory.1
stays_suffered before after call (Changes said next) reply why (inr (inr (inr room))) =
    stays_flagged before call after.state NoRoom room.2

stays : (before after : Handle) (call : Call) (reply : Reply) → Step before call reply after
    → Stays before call after.state
stays before after call reply step =
    ⊎_elim (stays_answer before after.state call (case_of before call) reply
    (explains before call) (suits before call))
    (stays_suffered before after call (case_of before call) reply
    (explains before call)) step.answers

-- the bounds stay, but for an upgrade
pub bounds_are_due : (before after : Handle) (call : Call) (reply : Reply)
    → Step before call reply after → AreDue before call after.state.bounds
bounds_are_due before after call reply step = (stays before after call reply step).bounds_are

pub settings_stay : SettingsStay
settings_stay before after call reply step = let s = stays before after call reply step in (
  ⊎_elim (ap (λ (b : Bounds). b.limit)) (λ up. ap (λ (b : Bounds). b.limit) up.raised) s.bounds_are,
  s.writable,
  λ other. ⊎_elim (λ same. same) (λ up. absurd (other up.upgrade)) s.bounds_are,
)

pub reading_keeps : ReadingKeeps
reading_keeps before after call reply step reading =
    (stays before after call reply step).map reading
