-- A call that fails on purpose, and is not passed on.
use Rattle.std.proofs.Common.{inl, ◌≡◌, ◌∙◌, ◌+◌, ◌-◌, ◌^◌, ℕ, Bool, true, min, cond, IsErr, Result, Ok, Err, OnOk, sym, ap, arith}
use Rattle.std.proofs.lemmas.Bool.{true≢false}
use Rattle.sect_dev.specs.declared.failing.Failing.{Failing}
use Rattle.sect_dev.specs.Device.{HasCause, Moment, Elapses}
use Rattle.sect_dev.specs.Failing.{schedule_of, own_faults, FollowsSchedule}

pub no_ok : {T E : Type 0} (r : Result T E) (P : Type 0) → IsErr r → OnOk r P
no_ok (Ok x) P err = absurd (true≢false (sym err))
no_ok (Err e) P err = tt

-- no time goes by
pub no_time : {X : Type 0} (now : Moment) (left : ℕ → X → Type 0) (may_leave : X → Type 0)
    → Elapses now now left left may_leave
no_time now left may_leave = record {
  later = omega arith;
  until = omega arith;
  nothing_else = λ t x le is. inl is;
  keeps = λ t x le is. is;
}

-- beside the faults of the device inside
pub cause_beside : {T E : Type 0} (inside before now : ℕ) (r : Result T E) → HasCause before now r
    → HasCause (inside + before) (inside + now) r
cause_beside inside before now (Ok x) cause = record {
  later = omega (arith, cause.later);
  fault = tt;
}
cause_beside inside before now (Err e) cause =
    record { later = omega (arith, cause.later); fault = omega (arith, cause.fault) }

pub refused_by_schedule : {D P T E : Type 0} (fails : P → ℕ → Bool) (faults : D → ℕ)
    (old new : Failing D P) (r : Result T E) → true ≡ fails (schedule_of old) 0 → IsErr r
    → own_faults new ≡ min (own_faults old + 1) (2 ^ 64 - 1)
    → ((i : ℕ) → fails (schedule_of new) i ≡ fails (schedule_of old) (i + 1))
    → FollowsSchedule fails faults old new r
refused_by_schedule fails faults old new r fails_now err counted goes_on = record {
  refused = λ _. err;
  passed = λ no. absurd (true≢false (fails_now ∙ no));
  counted = counted ∙ ap (λ b. cond b (min (own_faults old + 1) (2 ^ 64 - 1))
      (own_faults old)) fails_now;
  goes_on = goes_on;
}
