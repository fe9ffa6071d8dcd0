use Rattle.std.proofs.Common.{arith}
use Rattle.slot_page.proofs.Pages.{counted}
use Rattle.slot_page.proofs.bucket.counts.Goals as goal

pub returns : goal.returns
returns c =
    let n = counted c.args.page.now.bytes c.requires in
    let a = n.count_is in let b = n.low_is in let d = n.room_is in
    record { count = omega arith; low = omega arith; room = omega arith }
