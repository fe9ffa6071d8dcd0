-- How a fault in memory is told.
use Rattle.std.specs.Prelude.{◌≡◌, ℕ, false}
use Rattle.dbm_model.specs.Sizes.{is_limit}
use Rattle.dbm_fault.specs.declared.fault.Fault.{Fault}
use Rattle.dbm_fault.specs.declared.fault.Fault.TheVariants.{Device, Broken, BadLimit}
use Rattle.dbm_fault.specs.declared.engine_fault.EngineFault.{EngineFault}
use Rattle.dbm_fault.specs.declared.engine_fault.EngineFault.TheVariants.{Memory, Read, Write, Line, Db}

-- a device in memory fails only where a growth is refused, and what it broke was broken by that
abbrev pub told_in_memory : Fault → EngineFault
told_in_memory Device = Memory
told_in_memory Broken = Memory
told_in_memory fault = Db fault

-- the faults that a script in memory may end by: its database is refused for its limit alone
abbrev pub CanMeetInMemory : ℕ → EngineFault → Type 0
CanMeetInMemory limit Memory = Unit {0}
CanMeetInMemory limit Read = Unit {0}
CanMeetInMemory limit Write = Unit {0}
CanMeetInMemory limit (Line n) = ⊥
CanMeetInMemory limit (Db fault) = (fault ≡ BadLimit) × (is_limit limit ≡ false)
