use Rattle.std.proofs.Common.{◌-◌, ◌<◌, ◌≤◌, ℕ, length, slice_index_or, []}
use Rattle.page_io.specs.Page.{own_number}
use Rattle.page_io.specs.Store.{bytes_of}
use Rattle.page_io.proofs.staged.place_of.Given as goal

abbrev pub invariant-loop-low : goal.invariant-loop-low
invariant-loop-low l = record {
  low : l.low ≤ l.high;
  high : l.high ≤ length l.staged;
  before : (k : ℕ) → k < l.low → own_number (slice_index_or (bytes_of l.staged) k []) < l.n;
  after : l.high < length l.staged
      → l.n ≤ own_number (slice_index_or (bytes_of l.staged) l.high []);
}

abbrev pub decreases-loop-low : goal.decreases-loop-low
decreases-loop-low l = l.high - l.low
