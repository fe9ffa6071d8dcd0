-- A page that is spelled as a bucket page, and the list of records in it.
use Rattle.std.specs.Prelude.{◌≡◌, ℕ, List}
use Rattle.std.specs.List.{AllByRecursion}
use Rattle.dbm_model.specs.Bounds.{Version}
use Rattle.page_model.specs.Pages.{Record}
use Rattle.page_model.specs.Spelling.{bucket_spelling}
use Rattle.page_model.specs.Reading.{bucket_of}
use Rattle.page_model.specs.Valid.{IsBucket, IsOf}

-- the bytes are the one spelling of a page of records, near or far
pub record IsBucketPage (bytes : List ℕ) : Type 0 where
  pub sound : IsBucket (bucket_of bytes)
  pub spelled : bytes ≡ bucket_spelling (bucket_of bytes)

abbrev pub page_records : List ℕ → List Record
page_records bytes = (bucket_of bytes).held

-- and a page of this version: in version 1 no record is far
pub record IsPageOf (version : Version) (bytes : List ℕ) : Type 0 where
  pub page : IsBucketPage bytes
  pub of_version : AllByRecursion (IsOf version) (page_records bytes)
