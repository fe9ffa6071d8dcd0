use Rattle.std.proofs.Common.{◌≡◌, ◌<◌, ℕ, List, true, take}
use Rattle.page_io.specs.Store.{overlaid, are_in_order, bytes_of}
use Rattle.redo_area.proofs.reading.put_pages.Given as goal

abbrev pub invariant-loop-page : goal.invariant-loop-page
invariant-loop-page l = record {
  order : are_in_order 1 l.end (bytes_of l.redo.items) ≡ true;
  put : (home : ℕ → List ℕ) (n : ℕ) → n < l.end
      → overlaid (bytes_of l.redo.items) home n
      ≡ overlaid (bytes_of (take l.page-index l.pages))
      (overlaid (bytes_of l.fn.redo.items) home) n;
}
