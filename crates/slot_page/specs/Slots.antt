-- The slots of a page, as the code has them.
use Rattle.std.specs.Prelude.{ℕ, ◌+◌, ◌*◌, List, map}
use Rattle.std.specs.List.{range_with_len}
use Rattle.page_model.specs.Bytes.{u16_at}
use Rattle.page_model.specs.Slots.{Slot as Spelled}
use Rattle.slot_page.specs.declared.slot.Slot.{Slot}

-- the slot that it stands for
abbrev pub as_spelled : Slot → Spelled
as_spelled s = record { offset = s.offset; key_len = s.key_len; content_len = s.content_len }

-- slot i of a page
abbrev pub slot_at : List ℕ → ℕ → Slot
slot_at bytes i = record {
  offset = u16_at bytes (16 + 6 * i);
  key_len =
      u16_at bytes (16 + 6 * i + 2);
  content_len = u16_at bytes (16 + 6 * i + 4);
}

-- the first n slots
abbrev pub first_slots : List ℕ → ℕ → List Slot
first_slots bytes n = map (slot_at bytes) (range_with_len 0 n)
