use Rattle.std.proofs.Common.{◌≡◌}
use Rattle.slot_page.specs.Slots.{first_slots}
use Rattle.slot_page.proofs.reading.read_slots.Given as goal

abbrev pub invariant-loop-i : goal.invariant-loop-i
invariant-loop-i l = l.slots.items ≡ first_slots l.page.bytes l.i
