use Rattle.std.proofs.Common.{rules}
use Rattle.page_io.proofs.page.Page.is_plain.Goals as goal

pub returns-then-is_clear-clause-plain : goal.returns-then-is_clear-clause-plain
returns-then-is_clear-clause-plain c = search rules
