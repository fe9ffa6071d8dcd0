-- The least key of a chain behind the place of a pass.
use Rattle.std.specs.Prelude.{ℕ, ◌<◌, List, map, Option, Some, None}
use Rattle.std.specs.List.{AllByRecursion}
use Rattle.dbm_model.specs.KeyOrder.{ComesBefore}
use Rattle.dbm_model.specs.Pairs.{Key, Pair}
use Rattle.dbm_model.specs.States.{Pass, Begun, Behind}
use Rattle.dbm_model.specs.Steps.{IsAhead}
use Rattle.page_model.specs.PairLists.{times}
use Rattle.page_model.specs.Pages.{Body, Record}
use Rattle.page_io.specs.BucketPages.{IsBucketPage, page_records}
use Rattle.slot_page.specs.Contents.{HasKeyAt}
use Rattle.bucket_chain.specs.Chains.{record_pair}
use Rattle.bucket_chain.specs.Walks.{SaysAll}

-- behind this key, or before all where there is none
abbrev pub pass_behind : Option Key → Pass
pass_behind None = Begun
pass_behind (Some key) = Behind key

-- the least of the keys of these pairs that the pass has before it
pub record IsLeastKey (pairs : List Pair) (from : Pass) (key : Key) : Type 0 where
  pub among : 0 < times key pairs
  pub ahead : IsAhead from key
  pub least : AllByRecursion (λ pair. IsAhead from pair.0 → ComesBefore pair.0 key → ⊥) pairs

-- that slot of the page, which the bytes are, has that key
pub record IsLeastAt (pairs : List Pair) (from : Pass) (bytes : List ℕ) (slot : ℕ) : Type 0 where
  pub key : Key
  pub page : IsBucketPage bytes
  pub has : HasKeyAt key (page_records bytes) slot
  pub least : IsLeastKey pairs from key

-- that slot, or none where the pass has none of these keys before it
abbrev pub IsLeast : List Pair → Pass → List ℕ → Option ℕ → Type 0
IsLeast pairs from bytes None = AllByRecursion (λ pair. IsAhead from pair.0 → ⊥) pairs
IsLeast pairs from bytes (Some slot) = IsLeastAt pairs from bytes slot

-- On any file: the pages of the chain were read to its end, and that is the least of their keys.
pub record IsLeastRead (at : ℕ → Body) (head : ℕ) (from : Pass) (bytes : List ℕ)
    (answer : Option ℕ) : Type 0 where
  pub records : List Record
  pub says : SaysAll at head records
  pub least : IsLeast (map record_pair records) from bytes answer

-- the key in that slot of the page, which the bytes are, is one that the pass has before it
pub record IsAheadAt (from : Pass) (bytes : List ℕ) (slot : ℕ) : Type 0 where
  pub page : IsBucketPage bytes
  pub key : Key
  pub has : HasKeyAt key (page_records bytes) slot
  pub ahead : IsAhead from key
