use Rattle.std.proofs.Common.{◌∙◌, sym, ap, arith}
use Rattle.page_io.specs.Versions.{model_version}
use Rattle.slot_page.specs.declared.slot.Slot.{Slot}
use Rattle.slot_page.proofs.Layouts.{end_of-more, end_le}
use Rattle.slot_page.proofs.GoodSlots.{one_good_more}
use Rattle.slot_page.proofs.reading.are_good_slots.Goals as goal

pub is_good_slot-requires : goal.is_good_slot-requires
is_good_slot-requires c =
    let held = c.loop-i.invariant in
    let most = end_le c.args.page.now.bytes c.loop-i.i held.good.in_place in
    omega (arith, held.end_is)

pub loop-i-preserved : goal.loop-i-preserved
loop-i-preserved c =
    let bytes = c.args.page.now.bytes in
    let i = c.loop-i.i in
    record {
      end_is = ap (λ (s : Slot). s.offset) c.slot_at-slot.ensures ∙ sym (end_of-more bytes i);
      good = one_good_more (model_version c.args.version) bytes i c.loop-i.end
          c.slot_at-slot.result c.slot_at-slot.ensures c.loop-i.invariant.end_is
          (c.is_good_slot.ensures.0 c.if-not-is_good_slot.false) c.loop-i.invariant.good;
    }
