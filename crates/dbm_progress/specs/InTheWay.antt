-- Where a line of progress would stand among those that a work reads or writes.
use Rattle.std.specs.Prelude.{Bool, false}
use Rattle.dbm_progress.specs.declared.progress.Work.{Work}
use Rattle.dbm_progress.specs.declared.progress.Work.TheVariants.{LinesLoaded, KeysRead, PairsRead, KeysWritten, PairsWritten, StopsMade, BucketsVerified}
use Rattle.dbm_progress.specs.declared.terminal.Terminals.{Terminals}

-- a work whose own lines are read from a terminal, or are written to one
abbrev pub in_the_way : Terminals → Work → Bool
in_the_way terminals LinesLoaded = terminals.input
in_the_way terminals KeysWritten = terminals.output
in_the_way terminals PairsWritten = terminals.output
in_the_way terminals KeysRead = false
in_the_way terminals PairsRead = false
in_the_way terminals StopsMade = false
in_the_way terminals BucketsVerified = false
