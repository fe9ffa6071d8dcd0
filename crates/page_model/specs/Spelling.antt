-- The one way in which each page is spelled: its 2,048 bytes.
use Rattle.std.specs.Prelude.{ℕ, ◌-◌, ◌*◌, List, [], ◌∷◌, ◌++◌, length, replicate}
use Rattle.dbm_model.specs.Bounds.{version_number}
use Rattle.page_model.specs.Bytes.{u16_bytes, u32_bytes}
use Rattle.page_model.specs.Numbers.{numbers_bytes}
use Rattle.page_model.specs.Pages.{Meta, Body, MetaPage, SegmentPage, HeadPage, OverflowPage, FreePage, ContentPage, Other, NumberedBody, Bucket, bucket}
use Rattle.page_model.specs.Slots.{total_size, room_of, slots_ending, slots_bytes, records}

-- own number, kind, slot count, next page, low
abbrev pub header : ℕ → ℕ → ℕ → ℕ → ℕ → List ℕ
header own kind count next low =
    u32_bytes own ++ kind ∷ 0 ∷ [] ++ u16_bytes count ++ u32_bytes next
    ++ u16_bytes low ++ 0 ∷ 0 ∷ []

-- the version, and the numbers before the segments
abbrev pub counts : Meta → List ℕ
counts m = version_number m.bounds.version ∷ m.bounds.limit ∷ m.pairs ∷ m.level ∷ m.split ∷ m.free_head ∷ m.free_count ∷ length m.segments ∷ []

unfoldable pub meta_spelling : ℕ → Meta → List ℕ
meta_spelling own m = header own 1 0 0 0
    ++ (numbers_bytes (counts m) ++ (replicate 16 0
    ++ (numbers_bytes m.segments ++ replicate (1984 - 4 * length m.segments) 0)))

-- the heads of a segment's buckets; the entries behind them are 0
unfoldable pub segment_spelling : ℕ → List ℕ → List ℕ
segment_spelling own heads = header own 2 0 0 0
    ++ (numbers_bytes heads ++ replicate (2032 - 4 * length heads) 0)

abbrev pub bucket_header : Bucket → List ℕ
bucket_header b = header b.own b.kind (length b.held) b.next (2048 - total_size b.held)

-- slots, zeros, records
unfoldable pub bucket_spelling : Bucket → List ℕ
bucket_spelling b = bucket_header b
    ++ (slots_bytes (slots_ending 2048 b.held)
    ++ (replicate (room_of b.held) 0 ++ records b.held))

unfoldable pub free_spelling : ℕ → ℕ → List ℕ
free_spelling own next = header own 5 0 next 0 ++ replicate 2032 0

-- 2,032 bytes of a content
unfoldable pub content_spelling : ℕ → ℕ → List ℕ → List ℕ
content_spelling own next bytes = header own 6 0 next 0 ++ bytes

abbrev pub spelling_of : ℕ → Body → List ℕ
spelling_of n (MetaPage m) = meta_spelling n m
spelling_of n (SegmentPage heads) = segment_spelling n heads
spelling_of n (HeadPage next records) = bucket_spelling (bucket n 3 next records)
spelling_of n (OverflowPage next records) = bucket_spelling (bucket n 4 next records)
spelling_of n (FreePage next) = free_spelling n next
spelling_of n (ContentPage next bytes) = content_spelling n next bytes
spelling_of n Other = []

-- the bytes of a page
abbrev pub spell : NumberedBody → List ℕ
spell s = spelling_of s.number s.body
