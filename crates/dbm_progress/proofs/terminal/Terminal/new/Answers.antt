use Rattle.std.proofs.Common.{rules}
use Rattle.dbm_progress.proofs.terminal.Terminal.new.Goals as goal

pub returns-clause-none_is_due : goal.returns-clause-none_is_due
returns-clause-none_is_due g c = search rules

pub returns-clause-none_is_shown : goal.returns-clause-none_is_shown
returns-clause-none_is_shown g c = search rules
