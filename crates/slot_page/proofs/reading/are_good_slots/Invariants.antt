use Rattle.std.proofs.Common.{◌≡◌}
use Rattle.page_io.specs.Versions.{model_version}
use Rattle.slot_page.specs.Layout.{end_of, AreGoodSlots}
use Rattle.slot_page.proofs.reading.are_good_slots.Given as goal

abbrev pub invariant-loop-i : goal.invariant-loop-i
invariant-loop-i l = record {
  end_is : l.end ≡ end_of l.page.bytes l.i;
  good : AreGoodSlots (model_version l.version) l.page.bytes l.i;
}
