use Rattle.std.proofs.Common.{rules}
use Rattle.page_group.proofs.changed_pages.boxed.Goals as goal

pub returns-in-Some : goal.returns-in-Some
returns-in-Some c = search rules
