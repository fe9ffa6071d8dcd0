-- What is held of the pages of a file.
use Rattle.std.specs.Prelude.{◌≡◌, ℕ, ◌<◌, ◌≤◌, true}
use Rattle.page_io.specs.Store.{Pages, are_in_order, has_page}

-- Of a file that ends before page `end`, and whose base ends before page `base_end`: changed pages
-- below the end, and each page behind the base's.
pub record IsWhole (base_end : ℕ) (changed : Pages) (end : ℕ) : Type 0 where
  pub below : are_in_order 1 end changed ≡ true
  pub grown : (n : ℕ) → base_end ≤ n → n < end → has_page changed n ≡ true
