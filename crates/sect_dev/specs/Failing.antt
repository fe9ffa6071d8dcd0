-- What devices that fail on purpose show.
use Rattle.std.specs.Prelude.{◌≡◌, ◌+◌, ◌-◌, ◌^◌, ℕ, Bool, false, if◌then◌else◌, min, IsTrue, IsErr, Result}
use Rattle.sect_dev.specs.declared.failing.Failing.{Failing}
use Rattle.sect_dev.specs.Device.{Moment, HasCause}

-- the device that calls are passed on to
abbrev pub inner_of : {D P : Type 0} → Failing D P → D
inner_of f = f.inner

-- which of the calls to come fail
abbrev pub schedule_of : {D P : Type 0} → Failing D P → P
schedule_of f = f.schedule

-- the moment of the device inside, and up to which one the schedule lets it go
abbrev pub moment_of : {D P : Type 0} → (D → Moment) → (P → ℕ → ℕ) → Failing D P → Moment
moment_of moment until f = record {
  at = (moment f.inner).at;
  until = until f.schedule (moment f.inner).at;
}

-- how many calls it failed on purpose
abbrev pub own_faults : {D P : Type 0} → Failing D P → ℕ
own_faults f = f.refused

-- its own faults, beside those of the device inside
abbrev pub all_faults : {D P : Type 0} → (D → ℕ) → Failing D P → ℕ
all_faults faults f = faults f.inner + f.refused

-- A call that is to fail does, and is counted. Any other fails only where the device inside counted
-- a fault. Then the schedule goes on with the next call.
pub record FollowsSchedule {D P T E : Type 0} (fails : P → ℕ → Bool) (faults : D → ℕ)
    (old new : Failing D P) (result : Result T E) : Type 0 where
  pub refused : IsTrue (fails (schedule_of old) 0) → IsErr result
  pub passed : fails (schedule_of old) 0 ≡ false
      → HasCause (faults (inner_of old)) (faults (inner_of new)) result
  pub counted : own_faults new ≡ (if fails (schedule_of old) 0
      then min (own_faults old + 1) (2 ^ 64 - 1) else own_faults old)
  pub goes_on : (i : ℕ) → fails (schedule_of new) i ≡ fails (schedule_of old) (i + 1)
