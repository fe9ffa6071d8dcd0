-- Several pages that are staged one after the other.
use Rattle.std.specs.Prelude.{◌≡◌, ℕ, List, [], ◌∷◌}
use Rattle.page_io.specs.Page.{own_number}
use Rattle.page_io.specs.Store.{StoreState, put_page}
use Rattle.page_io.specs.Views.{MayEnd}

-- a commit may end the file before page `end` once these are staged too
abbrev pub MayEndWithAll : StoreState → List ℕ → ℕ → Type 0
MayEndWithAll state [] end = MayEnd state end
MayEndWithAll state (n ∷ pages) end = (bytes : List ℕ) → own_number bytes ≡ n
    → MayEndWithAll (record state { staged = put_page state.staged bytes }) pages end
