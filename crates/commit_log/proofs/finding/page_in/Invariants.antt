use Rattle.std.proofs.Common.{◌≡◌, ◌<◌, ◌+◌, ◌*◌, ℕ}
use Rattle.sect_dev.specs.Device.{part_of}
use Rattle.commit_log.specs.Log.{unstamped}
use Rattle.commit_log.proofs.finding.page_in.Given as goal

abbrev pub invariant-loop-j : goal.invariant-loop-j
invariant-loop-j l = record {
  written : (k : ℕ) → k < l.j → part_of l.page.bytes k ≡ unstamped (part_of l.bytes) (4 * l.i + k);
}
