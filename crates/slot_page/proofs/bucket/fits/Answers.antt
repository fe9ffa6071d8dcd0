use Rattle.std.proofs.Common.{rules}
use Rattle.slot_page.proofs.bucket.fits.Goals as goal

pub returns-then-key-room : goal.returns-then-key-room
returns-then-key-room c = search rules
