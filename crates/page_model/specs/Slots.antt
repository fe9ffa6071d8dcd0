-- The slots and the records of a page.
use Rattle.std.specs.Prelude.{ℕ, ◌+◌, ◌-◌, ◌*◌, Bool, nat_le, if◌then◌else◌, List, [], ◌∷◌, ◌++◌, length, Option, Some, None}
use Rattle.page_model.specs.Bytes.{u16_bytes}
use Rattle.page_model.specs.Pages.{Record}

-- where a record begins in its page, and the numbers of its two parts: their lengths, or where the
-- content is far that of the key and 32,768, and that of the content
pub record Slot : Type 0 where
  pub offset : ℕ
  pub key_len : ℕ
  pub content_len : ℕ

-- the bytes of a record: the key, then those behind it
abbrev pub size : Record → ℕ
size r = length r.key + length r.bytes

abbrev pub total_size : List Record → ℕ
total_size [] = 0
total_size (p ∷ ps) = size p + total_size ps

-- what slots and records take of the bytes after the header
abbrev pub taken : List Record → ℕ
taken ps = 6 * length ps + total_size ps

-- what they leave of them
abbrev pub room_of : List Record → ℕ
room_of ps = 2032 - taken ps

-- the numbers of a slot's two parts
abbrev pub key_number : ℕ → Option ℕ → ℕ
key_number size None = size
key_number size (Some length) = 32768 + size

abbrev pub content_number : ℕ → Option ℕ → ℕ
content_number size None = size
content_number size (Some length) = length

-- the slot of a record that ends at `end`
abbrev pub slot_ending : ℕ → Record → Slot
slot_ending end r = record {
  offset = end - size r;
  key_len = key_number (length r.key) r.far;
  content_len = content_number (length r.bytes) r.far;
}

-- whether a slot is far, and how many bytes of key and behind it its record then has
abbrev pub is_far_slot : Slot → Bool
is_far_slot s = nat_le 32768 s.key_len

abbrev pub key_size : Slot → ℕ
key_size s = if is_far_slot s then s.key_len - 32768 else s.key_len

abbrev pub bytes_size : Slot → ℕ
bytes_size s = if is_far_slot s then 4 else s.content_len

abbrev pub told_far : Slot → Option ℕ
told_far s = if is_far_slot s then Some s.content_len else None

-- the slots of records: the first record ends at `end`, each further one where the one before it
-- begins
abbrev pub slots_ending : ℕ → List Record → List Slot
slots_ending end [] = []
slots_ending end (p ∷ ps) = slot_ending end p ∷ slots_ending (end - size p) ps

abbrev pub slot_bytes : Slot → List ℕ
slot_bytes s = u16_bytes s.offset ++ u16_bytes s.key_len ++ u16_bytes s.content_len

abbrev pub slots_bytes : List Slot → List ℕ
slots_bytes [] = []
slots_bytes (s ∷ ss) = slot_bytes s ++ slots_bytes ss

-- the records, the first one last
abbrev pub records : List Record → List ℕ
records [] = []
records (p ∷ ps) = records ps ++ (p.key ++ p.bytes)
