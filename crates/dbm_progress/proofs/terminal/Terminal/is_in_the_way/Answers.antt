use Rattle.std.proofs.Common.{rules}
use Rattle.dbm_progress.proofs.terminal.Terminal.is_in_the_way.Goals as goal

pub returns-in-LinesLoaded : goal.returns-in-LinesLoaded
returns-in-LinesLoaded g c = search rules

pub returns-in-KeysWritten : goal.returns-in-KeysWritten
returns-in-KeysWritten g c = search rules
