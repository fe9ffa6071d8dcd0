-- How a fault is told.
use Rattle.std.specs.Prelude.{ℕ, List, ◌++◌, codes}
use Rattle.std.specs.Fmt.{decimal}
use Rattle.dbm_model.specs.Calls.{number_of}
use Rattle.dbm_lines.specs.Lines.{with_line_feed}
use Rattle.dbm_fault.specs.Faults.{fault_of}
use Rattle.dbm_commands.specs.declared.outcomes.Failure.{Failure}
use Rattle.dbm_commands.specs.declared.outcomes.Failure.TheVariants as failure
use Rattle.dbm_fault.specs.declared.engine_fault.EngineFault.{EngineFault}
use Rattle.dbm_fault.specs.declared.engine_fault.EngineFault.TheVariants.{Memory, Read, Write, Line, Db}

abbrev pub fault_text : EngineFault → List ℕ
fault_text Memory = codes "fault 1"
fault_text Read = codes "read"
fault_text Write = codes "write"
fault_text (Line n) = codes "line " ++ decimal n
fault_text (Db fault) = codes "fault " ++ decimal (number_of (fault_of fault))

-- the one line that tells a fault
abbrev pub fault_line : EngineFault → List ℕ
fault_line fault = with_line_feed (codes "dbmtool: " ++ fault_text fault)

-- the one line that tells a failure
abbrev pub failure_line : Failure → List ℕ
failure_line failure.NotHex = with_line_feed (codes "dbmtool: not hex")
failure_line failure.NotText =
    with_line_feed (codes "dbmtool: not UTF-8: such a KEY or CONTENT is given in hexadecimal, with -x; a FILE needs another name")
failure_line (failure.Fault fault) = fault_line fault
failure_line (failure.NotKept stop) = with_line_feed (codes "dbmtool: stop " ++ decimal stop)
