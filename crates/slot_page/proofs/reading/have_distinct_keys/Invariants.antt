use Rattle.std.proofs.Common.{◌≡◌, length}
use Rattle.slot_page.specs.Layout.{HaveDistinctKeys}
use Rattle.slot_page.proofs.KeyMarks.{AreNoted}
use Rattle.slot_page.proofs.reading.have_distinct_keys.Given as goal

abbrev pub invariant-loop-j : goal.invariant-loop-j
invariant-loop-j l = record {
  many : length l.is_seen ≡ 256;
  noted : AreNoted l.page.bytes l.is_seen l.j;
  distinct : HaveDistinctKeys l.page.bytes l.j;
}
