-- What is true of the copies of pages that are kept over a store.
use Rattle.std.specs.Prelude.{◌≡◌, ◌<◌, ◌≤◌, ℕ, true, false, List, Contains}
use Rattle.std.specs.Global.{Box}
use Rattle.page_io.specs.Store.{Pages, StoreState, IsKnown, has_page}
use Rattle.page_io.specs.Views.{visible_page}
use Rattle.page_io.specs.declared.page.Page.{Page}
use Rattle.page_io.specs.declared.store.PageStore.{Ghosts}
use Rattle.page_cache.specs.declared.page_copy.PageCopy.{PageCopy}

-- A copy of page n, where the store has that page, is what a read of it gives, while the store can
-- be used and the device below it is honest.
abbrev pub IsCurrent : {S : Type 0} → Ghosts S → S → ℕ → Page → Type 0
IsCurrent s store n page = s.honest store → (s.state store).usable ≡ true
    → IsKnown (s.state store) n → page.bytes ≡ visible_page s store n

-- each copy is current
abbrev pub AreCurrent : {S : Type 0} → Ghosts S → S → List (ℕ × Box PageCopy) → Type 0
AreCurrent s store copies = (n : ℕ) (copy : Box PageCopy) → Contains copies (n, copy)
    → IsCurrent s store n copy.value.page

-- a read may answer a copy of page n: the store can be used, and the file has that page
abbrev pub IsReadable : StoreState → ℕ → Type 0
IsReadable state n = (state.usable ≡ true) × (1 ≤ n) × (n < state.end)

-- none of these copies is of a staged page
abbrev pub HasNoStaged : Pages → List (ℕ × Box PageCopy) → Type 0
HasNoStaged staged copies = (n : ℕ) (copy : Box PageCopy) → Contains copies (n, copy) → 1 ≤ n
    → has_page staged n ≡ false
