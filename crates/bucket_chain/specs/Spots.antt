-- Where a record goes in a chain that was walked.
use Rattle.std.specs.Prelude.{◌≡◌, ℕ, ◌+◌, ◌≤◌, true, false, List, [], ◌∷◌, ◌++◌}
use Rattle.std.specs.List.{AllByRecursion}
use Rattle.dbm_model.specs.Bounds.{Version}
use Rattle.page_model.specs.Pages.{Body, Record}
use Rattle.page_model.specs.Slots.{size, room_of}
use Rattle.page_io.specs.BucketPages.{page_records}
use Rattle.bucket_chain.specs.Links.{IsLink}
use Rattle.bucket_chain.specs.Chains.{ReadLeaf, ReadChain, BeginsAt, kind_behind}
use Rattle.bucket_chain.specs.Walks.{IsFull, fits_leaf}
use Rattle.bucket_chain.specs.declared.puts.Spot.{Spot}

-- the page of the spot, with the records of these bytes
abbrev pub leaf_on : Spot → List ℕ → ReadLeaf
leaf_on spot bytes = record { number = spot.page; records = page_records bytes }

-- the bytes are a page of a chain, with room for the record where that is said
pub record IsSpotPage (version : Version) (r : Record) (bytes : List ℕ) (spot : Spot) : Type 0 where
  pub kind : ℕ
  pub next : ℕ
  pub link : IsLink version bytes spot.page kind next (page_records bytes)
  pub room : spot.has_room ≡ true → size r + 6 ≤ room_of (page_records bytes)

-- the pages up to the spot were read, and it is the first that the record fits, else the last
pub record IsSpot (version : Version) (at : ℕ → Body) (head : ℕ) (r : Record) (bytes : List ℕ)
    (spot : Spot) : Type 0 where
  pub before : ReadChain
  pub next : ℕ
  pub begins : BeginsAt at head (before ++ leaf_on spot bytes ∷ []) next
  pub numbered : AllByRecursion (λ leaf. 1 ≤ leaf.number) (before ++ leaf_on spot bytes ∷ [])
  pub passed : AllByRecursion (IsFull r) before
  pub link : IsLink version bytes spot.page (kind_behind before) next (page_records bytes)
  pub room : spot.has_room ≡ true → fits_leaf r (leaf_on spot bytes) ≡ true
  pub full : spot.has_room ≡ false → (fits_leaf r (leaf_on spot bytes) ≡ false) × (next ≡ 0)
