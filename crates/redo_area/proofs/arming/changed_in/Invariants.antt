use Rattle.std.proofs.Common.{◌<◌, ◌≤◌, ℕ, length, slice_index_or, []}
use Rattle.page_io.specs.Page.{own_number}
use Rattle.page_io.specs.Store.{bytes_of}
use Rattle.redo_area.proofs.arming.changed_in.Given as goal

abbrev pub invariant-loop-count : goal.invariant-loop-count
invariant-loop-count l = record {
  within : l.count ≤ length l.pages;
  from : (k : ℕ) → l.count ≤ k → k < length l.pages
      → l.old_end ≤ own_number (slice_index_or (bytes_of l.pages) k []);
}

abbrev pub decreases-loop-count : goal.decreases-loop-count
decreases-loop-count l = l.count
