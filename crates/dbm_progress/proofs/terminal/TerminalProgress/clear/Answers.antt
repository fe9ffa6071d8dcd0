use Rattle.std.proofs.Common.{rules}
use Rattle.dbm_progress.proofs.terminal.TerminalProgress.clear.Goals as goal

pub returns-then-self-clause-taken_away : goal.returns-then-self-clause-taken_away
returns-then-self-clause-taken_away g c = search rules
