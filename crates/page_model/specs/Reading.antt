-- What the bytes of a page say, read by places.
use Rattle.std.specs.Prelude.{◌≡◌, ℕ, ◌+◌, ◌-◌, ◌*◌, ◌/◌, ◌<◌, ◌≤◌, ◌==◌, List, [], ◌∷◌, length, map, take, drop, slice_index, if◌then◌else◌}
use Rattle.std.specs.List.{range_with_len}
use Rattle.std.specs.Str.{bytes_eq}
use Rattle.page_model.specs.Bytes.{u16_at, u32_at}
use Rattle.page_model.specs.Numbers.{numbers_at}
use Rattle.dbm_model.specs.Bounds.{Version, V1, V2}
use Rattle.page_model.specs.Pages.{Meta, Body, MetaPage, SegmentPage, HeadPage, OverflowPage, FreePage, ContentPage, Other, Record, Bucket}
use Rattle.page_model.specs.Slots.{Slot, key_size, bytes_size, told_far}
use Rattle.page_model.specs.Spelling.{spelling_of}

abbrev pub own_number : List ℕ → ℕ
own_number bytes = u32_at bytes 0

abbrev pub kind_of : List ℕ → ℕ
kind_of bytes = slice_index bytes 4

abbrev pub slot_count : List ℕ → ℕ
slot_count bytes = u16_at bytes 6

abbrev pub next_of : List ℕ → ℕ
next_of bytes = u32_at bytes 8

abbrev pub low : List ℕ → ℕ
low bytes = u16_at bytes 12

-- slot i
abbrev pub slot_of : List ℕ → ℕ → Slot
slot_of bytes i = record {
  offset = u16_at bytes (16 + 6 * i);
  key_len =
      u16_at bytes (16 + 6 * i + 2);
  content_len = u16_at bytes (16 + 6 * i + 4);
}

-- n slots from slot i on
abbrev pub slots_from : List ℕ → ℕ → ℕ → List Slot
slots_from bytes i n = map (slot_of bytes) (range_with_len i n)

abbrev pub key_of : List ℕ → Slot → List ℕ
key_of bytes s = take (key_size s) (drop s.offset bytes)

abbrev pub bytes_of : List ℕ → Slot → List ℕ
bytes_of bytes s = take (bytes_size s) (drop (s.offset + key_size s) bytes)

abbrev pub slot_record : List ℕ → Slot → Record
slot_record bytes s = record { key = key_of bytes s; bytes = bytes_of bytes s; far = told_far s }

-- the records of n slots from slot i on
abbrev pub records_from : List ℕ → ℕ → ℕ → List Record
records_from bytes i n = map (slot_record bytes) (slots_from bytes i n)

-- as a page of records
unfoldable pub bucket_of : List ℕ → Bucket
bucket_of bytes = record {
  own = own_number bytes;
  kind = kind_of bytes;
  next = next_of bytes;
  held = records_from bytes 0 (slot_count bytes);
}

-- the version of a number; a page with another number isn't spelled so
abbrev pub version_of : ℕ → Version
version_of number = if number == 2 then V2 else V1

-- as the meta page
unfoldable pub fields_of : List ℕ → Meta
fields_of bytes = record {
  bounds = record { limit = u32_at bytes 20; version = version_of (u32_at bytes 16) };
  pairs = u32_at bytes 24;
  level = u32_at bytes 28;
  split = u32_at bytes 32;
  free_head = u32_at bytes 36;
  free_count = u32_at bytes 40;
  segments = numbers_at bytes 64 (u32_at bytes 44);
}

-- a number in front of others; a 0 in front of none is left out
abbrev pub in_front : ℕ → List ℕ → List ℕ
in_front n [] = if n == 0 then [] else n ∷ []
in_front n (m ∷ ms) = n ∷ m ∷ ms

-- all but the zeros at the end
abbrev pub trimmed : List ℕ → List ℕ
trimmed [] = []
trimmed (n ∷ ns) = in_front n (trimmed ns)

-- as a segment page
unfoldable pub heads_on : List ℕ → List ℕ
heads_on bytes = trimmed (numbers_at bytes 16 ((length bytes - 16) / 4))

-- as a page of that kind
abbrev pub read_as : ℕ → List ℕ → Body
read_as kind bytes =
    if kind == 1 then MetaPage (fields_of bytes)
    else if kind == 2 then SegmentPage (heads_on bytes)
    else if kind == 3 then HeadPage (bucket_of bytes).next (bucket_of bytes).held
    else if kind == 4 then OverflowPage (bucket_of bytes).next (bucket_of bytes).held
    else if kind == 5 then FreePage (next_of bytes)
    else if kind == 6 then ContentPage (next_of bytes) (drop 16 bytes)
    else Other

abbrev pub body_by_kind : List ℕ → Body
body_by_kind bytes = read_as (kind_of bytes) bytes

-- what page n says: what its bytes would say, where they are the spelling of that
unfoldable pub body_of : ℕ → List ℕ → Body
body_of n bytes = if bytes_eq bytes (spelling_of n (body_by_kind bytes))
    then body_by_kind bytes else Other

-- the bytes from `from` up to `to` are zero
abbrev pub IsClear : List ℕ → ℕ → ℕ → Type 0
IsClear bytes from to = (k : ℕ) → from ≤ k → k < to → slice_index bytes k ≡ 0
