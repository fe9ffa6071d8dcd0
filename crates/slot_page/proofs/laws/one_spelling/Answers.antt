use Rattle.slot_page.proofs.Pages.{same_bytes}
use Rattle.slot_page.proofs.laws.one_spelling.Goals as goal

pub returns : goal.returns
returns _ = same_bytes
