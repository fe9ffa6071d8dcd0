-- How many copies there is room for.
use Rattle.std.specs.Prelude.{◌≡◌, ℕ, Option, Some}
use Rattle.std.specs.Global.{Box}
use Rattle.lru.specs.LruCache.{LruCache}
use Rattle.page_cache.specs.declared.page_copy.PageCopy.{PageCopy}

-- a cache, where there is one, has room for so many
abbrev pub HasRoomFor : ℕ → Option (LruCache ℕ (Box PageCopy)) → Type 0
HasRoomFor most pages = (cache : LruCache ℕ (Box PageCopy)) → pages ≡ Some cache → cache.cap ≡ most
