use Rattle.std.proofs.Common.{◌≡◌, ◌≤◌, ℕ, take, length}
use Rattle.page_io.specs.Store.{bytes_of, overlaid, page_of}
use Rattle.page_io.proofs.mem_pages.lay.Given as goal

abbrev pub invariant-loop-one : goal.invariant-loop-one
invariant-loop-one l = record {
  size : length l.pages.items ≡ length l.fn.pages.items;
  laid : (n : ℕ) → 1 ≤ n → n ≤ length l.fn.pages.items
      → page_of (bytes_of l.pages.items) n
      ≡ overlaid (bytes_of (take l.one-index l.staged)) (page_of (bytes_of l.fn.pages.items)) n;
}
