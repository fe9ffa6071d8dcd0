-- What may end a rehearsal.
use Rattle.std.specs.Prelude.{List, [], ◌∷◌}
use Rattle.dbm_fault.specs.declared.fault.Fault.TheVariants.{Damaged, NotADatabase, Version, TooSmall, BadLimit}
use Rattle.dbm_fault.specs.declared.engine_fault.EngineFault.{EngineFault}
use Rattle.dbm_fault.specs.declared.engine_fault.EngineFault.TheVariants.{Memory, Read, Write, Db}

-- why the database on the device can't be rehearsed
abbrev pub database_faults : List EngineFault
database_faults =
    Memory ∷ Db Damaged ∷ Db NotADatabase ∷ Db Version ∷ Db TooSmall ∷ Db BadLimit ∷ []

abbrev pub script_faults : List EngineFault
script_faults = Memory ∷ Read ∷ Write ∷ []

abbrev pub rehearsal_faults : List EngineFault
rehearsal_faults = Read ∷ Write ∷ database_faults
