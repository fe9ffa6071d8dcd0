-- What pages may say.
use Rattle.std.specs.List.{AllByRecursion}
use Rattle.std.specs.Prelude.{Option, Some, None, ℕ, ◌≡◌, ◌≢◌, ◌⊎◌, ◌↔◌, ◌+◌, ◌*◌, ◌^◌, ◌<◌, ◌≤◌, length, All, AllPairs}
use Rattle.page_model.specs.Numbers.{IsNumber}
use Rattle.page_model.specs.Pages.{Meta, Body, MetaPage, SegmentPage, HeadPage, OverflowPage, FreePage, ContentPage, Other, NumberedBody, Record, Bucket, bucket}
use Rattle.page_model.specs.Bytes.{u32_at}
use Rattle.dbm_model.specs.Bounds.{Version, V1, V2}
use Rattle.dbm_model.specs.Sizes.{buckets_for, segments_for}
use Rattle.page_model.specs.Slots.{taken}
use Rattle.page_model.specs.Reading.{trimmed}

-- a far record: the pair isn't near, its key is short, and its bytes are the number of a page
pub record IsFar (r : Record) (long : ℕ) : Type 0 where
  pub short : length r.key ≤ 1023
  pub number : (length r.bytes ≡ 4) × (u32_at r.bytes 0 ≢ 0)
  pub long_enough : (2026 < length r.key + long) × (long ≤ 65535)

abbrev pub MayTell : Record → Option ℕ → Type 0
MayTell r None = Unit {0}
MayTell r (Some long) = IsFar r long

abbrev pub IsRecord : Record → Type 0
IsRecord r = MayTell r r.far

-- a page of records: they fit, and no two have one key
pub record IsBucket (b : Bucket) : Type 0 where
  pub own : IsNumber b.own
  pub kind : (b.kind ≡ 3) ⊎ (b.kind ≡ 4)
  pub next : IsNumber b.next
  pub fits : taken b.held ≤ 2032
  pub distinct : AllPairs (λ r q. r.key ≢ q.key) b.held
  pub records : AllByRecursion IsRecord b.held

-- in version 1 none is far
abbrev pub IsOf : Version → Record → Type 0
IsOf V1 r = r.far ≡ None
IsOf V2 r = Unit {0}

-- what a page may say in a version: in version 1 no record is far, and there are no content pages
abbrev pub IsBodyOf : Version → Body → Type 0
IsBodyOf version (MetaPage m) = m.bounds.version ≡ version
IsBodyOf version (SegmentPage heads) = Unit {0}
IsBodyOf version (HeadPage next records) = AllByRecursion (IsOf version) records
IsBodyOf version (OverflowPage next records) = AllByRecursion (IsOf version) records
IsBodyOf version (FreePage next) = Unit {0}
IsBodyOf version (ContentPage next bytes) = version ≡ V2
IsBodyOf version Other = ⊥

abbrev pub meta_buckets : Meta → ℕ
meta_buckets m = 2 ^ m.level + m.split

pub record IsMeta (m : Meta) : Type 0 where
  pub limited : (1 ≤ m.bounds.limit) × (m.bounds.limit ≤ 1000000)
  pub split_in : m.split < 2 ^ m.level
  pub few_buckets : meta_buckets m ≤ buckets_for m.bounds.limit
  pub few_pairs : (m.pairs ≤ m.bounds.limit) × (m.pairs ≤ 8 * meta_buckets m)
  pub all_segments : length m.segments ≡ segments_for (meta_buckets m)
  pub used : All (λ n. (0 < n) × IsNumber n) m.segments
  pub numbers : IsNumber m.free_head × IsNumber m.free_count
  pub ends : (m.free_head ≡ 0) ↔ (m.free_count ≡ 0)

-- what page n may say; the heads of a segment are listed up to the last that isn't 0
abbrev pub MaySay : ℕ → Body → Type 0
MaySay n (MetaPage m) = (n ≡ 1) × IsMeta m
MaySay n (SegmentPage heads) =
    IsNumber n × (length heads ≤ 508) × All IsNumber heads × (trimmed heads ≡ heads)
MaySay n (HeadPage next records) = IsBucket (bucket n 3 next records)
MaySay n (OverflowPage next records) = IsBucket (bucket n 4 next records)
MaySay n (FreePage next) = IsNumber n × IsNumber next
MaySay n (ContentPage next bytes) = IsNumber n × IsNumber next × (length bytes ≡ 2032)
MaySay n Other = ⊥

abbrev pub IsValidBody : NumberedBody → Type 0
IsValidBody s = MaySay s.number s.body
