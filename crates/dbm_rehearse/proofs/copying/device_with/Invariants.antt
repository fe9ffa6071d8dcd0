use Rattle.std.proofs.Common.{◌≡◌}
use Rattle.sect_dev.specs.History.{content_after}
use Rattle.sect_dev.specs.Mem.{history}
use Rattle.dbm_rehearse.proofs.Copies.{AreCopied}
use Rattle.dbm_rehearse.proofs.copying.device_with.Given as goal

abbrev pub invariant-loop-n : goal.invariant-loop-n
invariant-loop-n l = record {
  size : l.dev.capacity ≡ l.sectors;
  copied : AreCopied l.bytes l.n (content_after (history l.dev));
}
