use Rattle.std.proofs.Common.{◌≡◌, true}
use Rattle.sect_dev.specs.Device.{part_of}
use Rattle.commit_log.specs.Log.{carry}
use Rattle.commit_log.proofs.finding.carries.Given as goal

abbrev pub invariant-loop-k : goal.invariant-loop-k
invariant-loop-k l = record {
  so_far : carry (part_of l.bytes) l.number l.k ≡ true;
}
