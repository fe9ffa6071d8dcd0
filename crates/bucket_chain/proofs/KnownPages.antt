-- A page that is staged is one of the version.
use Rattle.std.proofs.Common.{◌≡◌, ℕ, List, [], ◌∷◌, ◌++◌, sym, subst, arith}
use Rattle.std.specs.List.{AllByRecursion, remove}
use Rattle.dbm_model.specs.Bounds.{Version}
use Rattle.dbm_model.specs.Pairs.{Key}
use Rattle.page_model.specs.Pages.{Record, Bucket, bucket}
use Rattle.page_model.specs.Reading.{bucket_of}
use Rattle.page_model.specs.Valid.{IsOf}
use Rattle.page_model.proofs.Chains.{AllByRecursion-append}
use Rattle.page_io.specs.BucketPages.{IsBucketPage, IsPageOf, page_records}
use Rattle.slot_page.specs.Contents.{HasRecords, IsAbsent}
use Rattle.bucket_chain.proofs.TakenOut.{all_remove}

of_these : (version : Version) (old new : List ℕ) (records : List Record)
    → HasRecords old new records → AllByRecursion (IsOf version) records → IsPageOf version new
of_these version old new records has of_version = record {
  page = has.page;
  of_version = subst (λ (b : Bucket). AllByRecursion (IsOf version) b.held) (sym has.says)
      of_version;
}

-- a record of the version was added
pub page_with : (version : Version) (old new : List ℕ) (r : Record) → IsPageOf version old
    → IsOf version r → HasRecords old new (page_records old ++ r ∷ []) → IsPageOf version new
page_with version old new r page of_version has = of_these version old new _ has
    (AllByRecursion-append (IsOf version) (page_records old) (r ∷ []) page.of_version
    (of_version, tt))

-- one was taken out
pub page_without : (version : Version) (old new : List ℕ) (i : ℕ) → IsPageOf version old
    → HasRecords old new (remove (page_records old) i) → IsPageOf version new
page_without version old new i page has = of_these version old new _ has
    (all_remove (IsOf version) (page_records old) i page.of_version)

-- it has none
pub empty_page : (version : Version) (bytes : List ℕ) (own kind next : ℕ) → IsBucketPage bytes
    → bucket_of bytes ≡ bucket own kind next [] → IsPageOf version bytes
empty_page version bytes own kind next page says = record {
  page = page;
  of_version = subst (λ (b : Bucket). AllByRecursion (IsOf version) b.held) (sym says) tt;
}

-- so no key is in it
pub none_there : (key : Key) (bytes : List ℕ) (own kind next : ℕ)
    → bucket_of bytes ≡ bucket own kind next [] → IsAbsent key (page_records bytes)
none_there key bytes own kind next says =
    subst (λ (b : Bucket). IsAbsent key b.held) (sym says)
    (λ k r within same. omega (arith, within))
