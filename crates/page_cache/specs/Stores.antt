-- A store with copies of pages.
use Rattle.std.specs.Prelude.{◌≡◌, ℕ, true, List}
use Rattle.std.specs.Global.{Box}
use Rattle.page_io.specs.declared.store.PageStore.{Ghosts}
use Rattle.page_cache.specs.Copies.{copies_of, most_of, has_copy}
use Rattle.page_cache.specs.declared.cached_pages.CachedPages.{CachedPages}
use Rattle.page_cache.specs.declared.page_copy.PageCopy.{PageCopy}

-- the store below
abbrev pub store_below : {S : Type 0} {bound : Ghosts S} → CachedPages S bound → S
store_below cached = cached.store

-- how many copies it keeps at most
abbrev pub most_kept : {S : Type 0} {bound : Ghosts S} → CachedPages S bound → ℕ
most_kept cached = most_of cached.copies

-- the copies with the numbers of their pages
abbrev pub kept_copies : {S : Type 0} {bound : Ghosts S} → CachedPages S bound
    → List (ℕ × Box PageCopy)
kept_copies cached = copies_of cached.copies

-- it has a copy of page n
abbrev pub HasCopy : {S : Type 0} {bound : Ghosts S} → CachedPages S bound → ℕ → Type 0
HasCopy cached n = has_copy (copies_of cached.copies) n ≡ true
