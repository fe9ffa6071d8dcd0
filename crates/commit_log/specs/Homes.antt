-- Sectors beside pages that come to their own numbers.
use Rattle.std.specs.Prelude.{ℕ, [], ◌∷◌}
use Rattle.page_io.specs.Page.{own_number, IsOutsidePage}
use Rattle.page_io.specs.Store.{Pages}

-- a sector of none of these pages
abbrev pub IsOutsideAll : Pages → ℕ → Type 0
IsOutsideAll [] m = Unit {0}
IsOutsideAll (page ∷ pages) m = IsOutsidePage (own_number page) m × IsOutsideAll pages m
