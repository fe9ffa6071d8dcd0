-- How many pages a file has. These laws stand here, since a store's members cite them.
use Rattle.std.specs.Prelude.{◌≡◌, ◌+◌, ◌-◌, ◌≤◌, ℕ, zero, suc, List, length}
use Rattle.std.proofs.Common.{refl, ap, arith}
use Rattle.page_io.specs.Store.{pages_from, file_pages}

pub length-pages_from : (page : ℕ → List ℕ) (at count : ℕ)
    → length (pages_from page at count) ≡ count
length-pages_from page at zero = refl
length-pages_from page at (suc count) = ap suc (length-pages_from page (at + 1) count)

-- the end is one behind the pages
pub counts_end : (page : ℕ → List ℕ) (end : ℕ) → 4 ≤ end → length (file_pages page end) + 1 ≡ end
counts_end page end least = omega (arith, length-pages_from page 1 (end - 1))
