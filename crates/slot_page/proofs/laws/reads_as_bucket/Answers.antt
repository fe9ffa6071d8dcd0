use Rattle.slot_page.proofs.Pages.{is_head, is_overflow}
use Rattle.slot_page.proofs.laws.reads_as_bucket.Goals as goal

pub returns : goal.returns
returns _ = record { head = is_head; overflow = is_overflow }
