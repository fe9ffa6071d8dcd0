-- The copies of pages that are kept.
use Rattle.std.specs.Prelude.{ℕ, Bool, List, [], Option, Some, None, is_some, nat_eq}
use Rattle.std.specs.Global.{Box}
use Rattle.std.specs.Map.{lookup}
use Rattle.lru.specs.LruCache.{LruCache}
use Rattle.page_cache.specs.declared.page_copy.PageCopy.{PageCopy}
use Rattle.page_cache.specs.declared.page_copies.PageCopies.{PageCopies}

-- the entries of a cache, none where there is no cache
abbrev pub entries_of : Option (LruCache ℕ (Box PageCopy)) → List (ℕ × Box PageCopy)
entries_of None = []
entries_of (Some cache) = cache.entries

-- the copies with the numbers of their pages
abbrev pub copies_of : PageCopies → List (ℕ × Box PageCopy)
copies_of copies = entries_of copies.pages

-- how many there may be
abbrev pub most_of : PageCopies → ℕ
most_of copies = copies.most

-- is one of page n
abbrev pub has_copy : List (ℕ × Box PageCopy) → ℕ → Bool
has_copy copies n = is_some (lookup (nat_eq n) copies)
