-- What a walk along a chain has read, on any file.
use Rattle.std.specs.Prelude.{◌≡◌, ◌⊎◌, ℕ, ◌+◌, ◌<◌, ◌≤◌, nat_le, Contains, Bool, true, false, List, [], ◌∷◌, ◌++◌, length, Option, Some, None}
use Rattle.std.specs.List.{AllByRecursion, HoldsAt}
use Rattle.std.specs.FinMap.{find}
use Rattle.dbm_model.specs.Bounds.{Version}
use Rattle.dbm_model.specs.Pairs.{Key, key_cmp}
use Rattle.page_model.specs.PairLists.{times}
use Rattle.page_model.specs.Pages.{Body, Record}
use Rattle.page_model.specs.Chain.{Chain, Entry, entries_in, pairs_in, record_of}
use Rattle.page_model.specs.Slots.{size, taken}
use Rattle.page_io.specs.BucketPages.{IsBucketPage, page_records}
use Rattle.slot_page.specs.Contents.{HasKeyAt}
use Rattle.bucket_chain.specs.Chains.{ReadLeaf, ReadChain, pairs_read, all_records, BeginsAt}
use Rattle.bucket_chain.specs.Links.{AreSound}
use Rattle.bucket_chain.specs.declared.place.Place.{Place}

-- the pages up to one where the walk ended: each one before it was passed, and it is the last as
-- stated
pub record IsWalk (at : ℕ → Body) (head : ℕ) (Passed : ReadLeaf → Type 0)
    (Last : ReadLeaf → ℕ → Type 0) : Type 0 where
  pub before : ReadChain
  pub leaf : ReadLeaf
  pub after : ℕ
  pub are_read : BeginsAt at head (before ++ leaf ∷ []) after
  pub passed : AllByRecursion Passed before
  pub last : Last leaf after

abbrev pub LacksKey : Key → ReadLeaf → Type 0
LacksKey key leaf = times key (pairs_read leaf) ≡ 0

-- no page behind it, and none has the key
abbrev pub EndsWithout : Key → ReadLeaf → ℕ → Type 0
EndsWithout key leaf after = (after ≡ 0) × LacksKey key leaf

-- the key's record stands at the place in the page, which the bytes are
pub record IsRecordAt (key : Key) (bytes : List ℕ) (place : Place) (leaf : ReadLeaf)
    (after : ℕ) : Type 0 where
  pub number : place.page ≡ leaf.number
  pub page : IsBucketPage bytes
  pub records : page_records bytes ≡ leaf.records
  pub has : HasKeyAt key leaf.records place.slot

-- the walk ended at the page with the key, or behind all pages
abbrev pub IsLookup : (ℕ → Body) → ℕ → Key → List ℕ → Option Place → Type 0
IsLookup at head key bytes None = IsWalk at head (LacksKey key) (EndsWithout key)
IsLookup at head key bytes (Some place) = IsWalk at head (LacksKey key) (IsRecordAt key bytes place)

-- the first of the key's entries in the chain has its record at the place in the page, which the
-- bytes are
pub record IsFoundIn (key : Key) (chain : Chain) (bytes : List ℕ) (place : Place) : Type 0 where
  pub entry : Entry
  pub among : Contains (entries_in chain) entry
  pub key_is : entry.pair.0 ≡ key
  pub page : IsBucketPage bytes
  pub within : HasKeyAt key (page_records bytes) place.slot
  pub there : HoldsAt (λ r. r ≡ record_of entry) (page_records bytes) place.slot
  pub found : find key_cmp key (pairs_in chain) ≡ Some entry.pair.1

abbrev pub IsLookedUp : Key → Chain → List ℕ → Option Place → Type 0
IsLookedUp key chain bytes None = find key_cmp key (pairs_in chain) ≡ None
IsLookedUp key chain bytes (Some place) = IsFoundIn key chain bytes place

-- a page has room for a record
abbrev pub fits_leaf : Record → ReadLeaf → Bool
fits_leaf r leaf = nat_le (taken leaf.records + (6 + size r)) 2032

-- the record fits no page that was passed, and fits the last or there is no page behind it
abbrev pub IsFull : Record → ReadLeaf → Type 0
IsFull r leaf = fits_leaf r leaf ≡ false

abbrev pub FitsOrEnds : Record → ReadLeaf → ℕ → Type 0
FitsOrEnds r leaf after = (fits_leaf r leaf ≡ true) ⊎ (after ≡ 0)

abbrev pub IsRoomWalk : (ℕ → Body) → ℕ → Record → Type 0
IsRoomWalk at head r = IsWalk at head (IsFull r) (FitsOrEnds r)

-- the last page has the key
abbrev pub HasKey : Key → ReadLeaf → ℕ → Type 0
HasKey key leaf after = 0 < times key (pairs_read leaf)

-- The pages that a look for the key reads, up to the one that has it or names no next, are at most
-- so many, none of them is page 0, and each holds records that a page of the version may.
pub record CanLook (version : Version) (at : ℕ → Body) (end head : ℕ) (key : Key) : Type 0 where
  pub walk : IsWalk at head (LacksKey key) (λ leaf after. HasKey key leaf after ⊎ (after ≡ 0))
  pub few : length walk.before < end
  pub sound : AllByRecursion (λ leaf. (1 ≤ leaf.number) × AreSound version leaf.records)
      (walk.before ++ walk.leaf ∷ [])

abbrev pub IsKeyWalk : (ℕ → Body) → ℕ → Key → Bool → Type 0
IsKeyWalk at head key true = IsWalk at head (LacksKey key) (HasKey key)
IsKeyWalk at head key false = IsWalk at head (LacksKey key) (EndsWithout key)

-- the pages of a chain were read to its end, and these are its records
pub record SaysAll (at : ℕ → Body) (head : ℕ) (records : List Record) : Type 0 where
  pub chain : ReadChain
  pub are_read : BeginsAt at head chain 0
  pub all : records ≡ all_records chain

-- they were read to its end
pub record IsReadToEnd (at : ℕ → Body) (head : ℕ) : Type 0 where
  pub chain : ReadChain
  pub are_read : BeginsAt at head chain 0
