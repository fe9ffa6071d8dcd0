-- How what stopped an operation is told.
use Rattle.std.specs.Prelude.{◌≡◌, Result, Ok, Err}
use Rattle.dbm_fault.specs.declared.engine_fault.EngineFault.{EngineFault}
use Rattle.dbm_fault.specs.declared.engine_fault.EngineFault.TheVariants.{Memory, Write, Db}
use Rattle.dbm_aside.specs.declared.stop.Stop.{Stop}

-- by want of memory, or by a fault of a database
abbrev pub IsOfDatabase : EngineFault → Type 0
IsOfDatabase Memory = Unit {0}
IsOfDatabase (Db fault) = Unit {0}
IsOfDatabase _ = ⊥

-- or by a failed reading, or a bad line
abbrev pub IsOfLoad : EngineFault → Type 0
IsOfLoad Write = ⊥
IsOfLoad _ = Unit {0}

-- of what was refused before the end by this fault, that is told; else it ends so, or by a fault of
-- a database
abbrev pub Ends : {T : Type 0} → Result Unit EngineFault → Result T Stop → Type 0
Ends (Ok done) (Ok answer) = Unit {0}
Ends (Ok done) (Err stop) = IsOfDatabase stop.fault
Ends (Err fault) (Ok answer) = ⊥
Ends (Err fault) (Err stop) = stop.fault ≡ fault
