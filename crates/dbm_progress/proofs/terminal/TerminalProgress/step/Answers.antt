use Rattle.std.proofs.Common.{rules}
use Rattle.dbm_progress.proofs.terminal.TerminalProgress.step.Goals as goal

pub returns-then-is_due-clause-none_is_due : goal.returns-then-is_due-clause-none_is_due
returns-then-is_due-clause-none_is_due g c = search rules

pub returns-then-is_due-clause-in_the_way : goal.returns-then-is_due-clause-in_the_way
returns-then-is_due-clause-in_the_way g c = search rules
