use Rattle.std.proofs.Common.{arith}
use Rattle.slot_page.proofs.bucket.room.Goals as goal

pub returns : goal.returns
returns c = omega arith
