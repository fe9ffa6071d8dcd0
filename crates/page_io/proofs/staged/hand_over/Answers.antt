use Rattle.std.proofs.Common.{rules}
use Rattle.page_io.proofs.staged.hand_over.Goals as goal

pub returns-then-is_ok-clause-given : goal.returns-then-is_ok-clause-given
returns-then-is_ok-clause-given c = search rules

pub returns-then-is_ok-clause-none : goal.returns-then-is_ok-clause-none
returns-then-is_ok-clause-none c = search rules
