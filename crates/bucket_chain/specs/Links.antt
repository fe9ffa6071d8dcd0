-- A page of a chain.
use Rattle.std.specs.Prelude.{◌≡◌, ◌≢◌, ◌==◌, ℕ, ◌<◌, List, length, AllPairs, if◌then◌else◌}
use Rattle.std.specs.List.{AllByRecursion}
use Rattle.dbm_model.specs.Bounds.{Version}
use Rattle.page_model.specs.Pages.{Body, HeadPage, OverflowPage, Record, bucket}
use Rattle.page_model.specs.Reading.{bucket_of}
use Rattle.page_model.specs.Valid.{IsRecord, IsOf}
use Rattle.page_io.specs.BucketPages.{IsPageOf}

-- a head page, of kind 3, or an overflow page
abbrev pub link_body : ℕ → ℕ → List Record → Body
link_body kind next records = if kind == 3 then HeadPage next records else OverflowPage next records

-- a page of this version may hold these records: no two have one key
pub record AreSound (version : Version) (records : List Record) : Type 0 where
  pub distinct : AllPairs (λ r q. r.key ≢ q.key) records
  pub told : AllByRecursion IsRecord records
  pub of_version : AllByRecursion (IsOf version) records

-- page n says these records, and `next` follows it; an overflow page has a record
pub record SaysLink (version : Version) (at : ℕ → Body) (n kind next : ℕ)
    (records : List Record) : Type 0 where
  pub says : at n ≡ link_body kind next records
  pub filled : kind ≡ 4 → 0 < length records
  pub sound : AreSound version records

-- the bytes are such a page
pub record IsLink (version : Version) (bytes : List ℕ) (n kind next : ℕ)
    (records : List Record) : Type 0 where
  pub page : IsPageOf version bytes
  pub says : bucket_of bytes ≡ bucket n kind next records
  pub filled : kind ≡ 4 → 0 < length records
