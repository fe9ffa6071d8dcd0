use Rattle.std.proofs.Common.{◌<◌, ◌≤◌, ℕ}
use Rattle.sect_dev.specs.Device.{part_of}
use Rattle.page_model.specs.Bytes.{u32_at}
use Rattle.commit_log.proofs.finding.highest_in.Given as goal

abbrev pub invariant-loop-k : goal.invariant-loop-k
invariant-loop-k l = record {
  so_far : (j : ℕ) → j < l.k → u32_at (part_of l.bytes j) 0 ≤ l.highest;
}
