use Rattle.std.proofs.Common.{refl}
use Rattle.page_io.proofs.page.Page.blank.Goals as goal

pub returns : goal.returns
returns c = refl
