-- The ranks of a page's keys.
use Rattle.std.specs.Prelude.{◌≡◌, ℕ, List, map}
use Rattle.dbm_model.specs.KeyOrder.{hash_of, rank}
use Rattle.page_io.specs.BucketPages.{IsBucketPage, page_records}

-- the ranks of the keys of the page, which the bytes are, in the order of its slots
abbrev pub key_ranks : List ℕ → List ℕ
key_ranks bytes = map (λ r. rank (hash_of r.key)) (page_records bytes)

-- the bytes are a page of records, and these are the ranks of its keys
pub record HasRanks (bytes ranks : List ℕ) : Type 0 where
  pub page : IsBucketPage bytes
  pub ranks_are : ranks ≡ key_ranks bytes
