-- What a look for the content of a key finds.
use Rattle.std.specs.Prelude.{◌≡◌, ◌<◌, ◌≤◌, ℕ, ◌+◌, Contains, List, length, Option, Some, None}
use Rattle.std.specs.List.{HoldsAt}
use Rattle.std.specs.FinMap.{find}
use Rattle.dbm_model.specs.Bounds.{Version, V2}
use Rattle.dbm_model.specs.Pairs.{Key, key_cmp}
use Rattle.page_model.specs.Pages.{Body, Record}
use Rattle.page_model.specs.Chain.{Chain, Entry, entries_in, pairs_in, record_of}
use Rattle.slot_page.specs.Contents.{HasKeyAt, IsAbsent, told_content}
use Rattle.bucket_chain.specs.Chains.{ReadLeaf}
use Rattle.bucket_chain.specs.Walks.{IsWalk, LacksKey, EndsWithout}
use Rattle.bucket_chain.specs.declared.content_lookups.FoundContent.{FoundContent}
use Rattle.bucket_chain.specs.declared.content_lookups.FoundContent.TheVariants.{Near, Far}

-- a record's content is these bytes, or begins in that page and is so long
abbrev pub TellsContent : Record → List ℕ → FoundContent → Type 0
TellsContent r bytes Near = (told_content r ≡ None) × (r.bytes ≡ bytes)
TellsContent r bytes (Far first long) = told_content r ≡ Some (first, long)

-- the record in a slot, and none in another, has the key, and the content is found that it tells
pub record IsOnlyAt (key : Key) (records : List Record) (bytes : List ℕ) (found : FoundContent)
    (slot : ℕ) : Type 0 where
  pub has : HasKeyAt key records slot
  pub only : (k : ℕ) → HasKeyAt key records k → k ≡ slot
  pub tells : HoldsAt (λ r. TellsContent r bytes found) records slot

-- the content of the key in a page with these records
abbrev pub IsLookIn : Key → List Record → List ℕ → Option FoundContent → Type 0
IsLookIn key records bytes None = IsAbsent key records
IsLookIn key records bytes (Some found) = (slot : ℕ) × IsOnlyAt key records bytes found slot

-- a page has the key, and the content is found that its record tells
abbrev pub TellsKey : Key → List ℕ → FoundContent → ReadLeaf → ℕ → Type 0
TellsKey key bytes found leaf after =
    (slot : ℕ) × HasKeyAt key leaf.records slot
    × HoldsAt (λ r. TellsContent r bytes found) leaf.records slot

-- the walk ended at the page with the key, or behind all pages
abbrev pub IsContentLook : (ℕ → Body) → ℕ → Key → List ℕ → Option FoundContent → Type 0
IsContentLook at head key bytes None = IsWalk at head (LacksKey key) (EndsWithout key)
IsContentLook at head key bytes (Some found) =
    IsWalk at head (LacksKey key) (TellsKey key bytes found)

-- the first of the key's entries in the chain has the content
pub record IsContentIn (key : Key) (chain : Chain) (bytes : List ℕ) (found : FoundContent)
    : Type 0 where
  pub entry : Entry
  pub among : Contains (entries_in chain) entry
  pub key_is : entry.pair.0 ≡ key
  pub tells : TellsContent (record_of entry) bytes found
  pub first : find key_cmp key (pairs_in chain) ≡ Some entry.pair.1

abbrev pub IsContentFound : Key → Chain → List ℕ → Option FoundContent → Type 0
IsContentFound key chain bytes None = find key_cmp key (pairs_in chain) ≡ None
IsContentFound key chain bytes (Some found) = IsContentIn key chain bytes found

-- A far content is of version 2, too long to lie beside its key, and no longer than may be.
abbrev pub IsOfVersion : Version → Key → FoundContent → Type 0
IsOfVersion version key Near = Unit {0}
IsOfVersion version key (Far first long) =
    (version ≡ V2) × (2026 < length key + long) × (long ≤ 65535)
