-- Pages by their own numbers, as a map has them.
use Rattle.std.specs.Prelude.{◌≡◌, ℕ, List, map}
use Rattle.std.specs.Global.{Box}
use Rattle.std.specs.Map.{keys_of}
use Rattle.page_io.specs.Page.{own_number}
use Rattle.page_io.specs.Store.{Pages}
use Rattle.page_io.specs.declared.page.Page.{Page}

-- the bytes of the pages of a map, in the order of its numbers
abbrev pub pages_in : List (ℕ × Box Page) → Pages
pages_in entries = map (λ entry. entry.1.value.bytes) entries

-- each page stands under its own number
abbrev pub AreNumbered : List (ℕ × Box Page) → Type 0
AreNumbered entries = keys_of entries ≡ map own_number (pages_in entries)
