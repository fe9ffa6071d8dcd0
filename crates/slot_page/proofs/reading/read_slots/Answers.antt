use Rattle.std.proofs.Common.{◌≡◌, length, ap, ◌∙◌, arith}
use Rattle.std.proofs.lemmas.List.FromFn.{length-map-range_with_len}
use Rattle.slot_page.specs.Slots.{slot_at}
use Rattle.slot_page.proofs.Layouts.{slots_more}
use Rattle.slot_page.proofs.reading.read_slots.Goals as goal

pub push-requires : goal.push-requires
push-requires c =
    let many : length c.loop-i.slots.items ≡ c.loop-i.i =
    ap length c.loop-i.invariant
    ∙ length-map-range_with_len (slot_at c.args.page.now.bytes) 0 c.loop-i.i in
    (omega arith, omega (arith, many))

pub loop-i-preserved : goal.loop-i-preserved
loop-i-preserved c =
    slots_more c.args.page.now.bytes c.loop-i.i c.loop-i.slots.items c.push.new.self.items
    c.slot_at.result c.loop-i.invariant c.slot_at.ensures c.push.ensures.items
