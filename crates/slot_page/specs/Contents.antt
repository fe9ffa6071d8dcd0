-- The records of a bucket page, and what changes of it leave.
use Rattle.std.specs.Prelude.{◌≡◌, ◌≢◌, ℕ, ◌<◌, List, length, All, Option, Some, None}
use Rattle.std.specs.List.{HoldsAt}
use Rattle.std.specs.Option.{option_map}
use Rattle.dbm_model.specs.Pairs.{Key}
use Rattle.page_model.specs.Bytes.{u32_bytes, u32_at}
use Rattle.page_model.specs.Pages.{Record, Bucket}
use Rattle.page_model.specs.Reading.{own_number, kind_of, next_of, bucket_of}
use Rattle.page_io.specs.BucketPages.{IsBucketPage}

abbrev pub with_records : Bucket → List Record → Bucket
with_records b rs = record b { held = rs }

abbrev pub with_next : Bucket → ℕ → Bucket
with_next b n = record b { next = n }

-- a record of these parts
abbrev pub record_of : Key → List ℕ → Option ℕ → Record
record_of key bytes far = record { key = key; bytes = bytes; far = far }

-- the record of a near pair
abbrev pub near_record : Key → List ℕ → Record
near_record key content = record { key = key; bytes = content; far = None }

-- that of a far one, whose content begins in this page and is so long
abbrev pub far_record : Key → ℕ → ℕ → Record
far_record key first long = record { key = key; bytes = u32_bytes first; far = Some long }

-- the first page and the length of a far content
abbrev pub told_content : Record → Option (ℕ × ℕ)
told_content r = option_map (λ long. (u32_at r.bytes 0, long)) r.far

-- no record has this key
abbrev pub IsAbsent : Key → List Record → Type 0
IsAbsent key rs = All (λ r. r.key ≢ key) rs

-- record i has this key
abbrev pub HasKeyAt : Key → List Record → ℕ → Type 0
HasKeyAt key rs i = (i < length rs) × HoldsAt (λ r. r.key ≡ key) rs i

-- the page now has these records, under the same own number, kind and next
pub record HasRecords (old new : List ℕ) (rs : List Record) : Type 0 where
  pub page : IsBucketPage new
  pub says : bucket_of new ≡ with_records (bucket_of old) rs

-- own number, kind and next stay
pub record KeepsHeader (old new : List ℕ) : Type 0 where
  pub own : own_number new ≡ own_number old
  pub kind : kind_of new ≡ kind_of old
  pub next : next_of new ≡ next_of old
