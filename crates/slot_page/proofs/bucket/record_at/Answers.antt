use Rattle.std.proofs.Common.{arith, ap}
use Rattle.slot_page.specs.Slots.{as_spelled}
use Rattle.slot_page.proofs.Pages.{counted, record_inside, record_read}
use Rattle.slot_page.proofs.bucket.record_at.Goals as goal

pub key_at-requires : goal.key_at-requires
key_at-requires c =
    let inside = record_inside c.args.page.now.bytes c.args.i (as_spelled c.slot_at-slot.result)
    (counted c.args.page.now.bytes c.requires.page) c.requires.within
    (ap as_spelled c.slot_at-slot.ensures) in
    omega arith

pub bytes_at-requires : goal.bytes_at-requires
bytes_at-requires c = record_inside c.args.page.now.bytes c.args.i
    (as_spelled c.slot_at-slot.result) (counted c.args.page.now.bytes c.requires.page)
    c.requires.within (ap as_spelled c.slot_at-slot.ensures)

pub returns : goal.returns
returns c = record_read c.args.page.now.bytes c.args.i (as_spelled c.slot_at-slot.result)
    c.key_at.result.now c.bytes_at.result.now c.far_len.result
    (counted c.args.page.now.bytes c.requires.page) c.requires.within
    (ap as_spelled c.slot_at-slot.ensures) c.key_at.ensures c.bytes_at.ensures c.far_len.ensures
