use Rattle.std.proofs.Common.{arith}
use Rattle.slot_page.proofs.Pages.{counted}
use Rattle.bucket_chain.proofs.ranked_page.gap_of.Goals as goal

pub overflow_sub-result : goal.overflow_sub-result
overflow_sub-result c =
    let page = counted c.args.page.now.bytes c.requires in
    omega (arith, page.count_is, page.low_is, page.room_is, c.low-low.ensures, c.room.ensures)

pub returns-clause-from : goal.returns-clause-from
returns-clause-from c =
    let page = counted c.args.page.now.bytes c.requires in
    omega (arith, page.count_is, page.low_is, page.room_is, c.low-low.ensures, c.room.ensures)

pub returns-clause-within : goal.returns-clause-within
returns-clause-within c =
    let page = counted c.args.page.now.bytes c.requires in
    omega (arith, page.low_is, c.low-low.ensures)
