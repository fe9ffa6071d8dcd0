use Rattle.std.proofs.Common.{rules}
use Rattle.slot_page.proofs.reading.has_good_header.Goals as goal

pub returns-then-page-eq0-2 : goal.returns-then-page-eq0-2
returns-then-page-eq0-2 c = search rules

pub returns-else-page-eq0-2 : goal.returns-else-page-eq0-2
returns-else-page-eq0-2 c = search rules
