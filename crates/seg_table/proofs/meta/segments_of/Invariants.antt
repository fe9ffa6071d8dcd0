use Rattle.std.proofs.Common.{◌≡◌}
use Rattle.page_model.specs.Numbers.{numbers_at}
use Rattle.seg_table.proofs.meta.segments_of.Given as goal

abbrev pub invariant-loop-i : goal.invariant-loop-i
invariant-loop-i l = l.segments.items ≡ numbers_at l.page.bytes 64 l.i
