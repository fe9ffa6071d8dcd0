-- The bytes of a bucket page, test by test.
use Rattle.std.specs.Prelude.{◌≡◌, ◌≢◌, ◌⊎◌, ℕ, zero, suc, ◌+◌, ◌*◌, ◌<◌, ◌≤◌, List, slice_index}
use Rattle.dbm_model.specs.Bounds.{Version}
use Rattle.page_model.specs.Reading.{kind_of, slot_count, low, slot_of, key_of, slot_record, IsClear}
use Rattle.page_model.specs.Slots.{Slot, key_size, bytes_size}
use Rattle.page_model.specs.Valid.{IsOf, IsRecord}

-- where the record of slot i ends
abbrev pub end_of : List ℕ → ℕ → ℕ
end_of bytes zero = 2048
end_of bytes (suc i) = (slot_of bytes i).offset

pub record HasGoodHeader (bytes : List ℕ) : Type 0 where
  pub kind : (kind_of bytes ≡ 3) ⊎ (kind_of bytes ≡ 4)
  pub zero5 : slice_index bytes 5 ≡ 0
  pub zero14 : slice_index bytes 14 ≡ 0
  pub zero15 : slice_index bytes 15 ≡ 0

-- each of the first n records ends where it should
abbrev pub AreInPlace : List ℕ → ℕ → Type 0
AreInPlace bytes n = (i : ℕ) → i < n
    → (slot_of bytes i).offset + key_size (slot_of bytes i) + bytes_size (slot_of bytes i)
    ≡ end_of bytes i

-- slot j has another key than each slot before it
abbrev pub HasNewKey : List ℕ → ℕ → Type 0
HasNewKey bytes j = (i : ℕ) → i < j
    → key_of bytes (slot_of bytes i) ≢ key_of bytes (slot_of bytes j)

-- no two of the first n slots have one key
abbrev pub HaveDistinctKeys : List ℕ → ℕ → Type 0
HaveDistinctKeys bytes n = (i j : ℕ) → i < j → j < n
    → key_of bytes (slot_of bytes i) ≢ key_of bytes (slot_of bytes j)

-- each of the first n slots tells a record that there may be: where it is far, the pair isn't near,
-- its key is short, and the number of its first page isn't 0
abbrev pub TellRecords : List ℕ → ℕ → Type 0
TellRecords bytes n = (i : ℕ) → i < n → IsRecord (slot_record bytes (slot_of bytes i))

-- in version 1 none of them is far
abbrev pub AreSlotsOf : Version → List ℕ → ℕ → Type 0
AreSlotsOf version bytes n = (i : ℕ) → i < n → IsOf version (slot_record bytes (slot_of bytes i))

-- the record of this slot ends at `end`, and is one that there may be
pub record IsGoodFar (bytes : List ℕ) (s : Slot) (end : ℕ) : Type 0 where
  pub ends : s.offset + key_size s + bytes_size s ≡ end
  pub tells : IsRecord (slot_record bytes s)

-- and it may be in this version
pub record IsGoodSlot (version : Version) (bytes : List ℕ) (s : Slot) (end : ℕ) : Type 0 where
  pub good : IsGoodFar bytes s end
  pub of_version : IsOf version (slot_record bytes s)

-- all three of the first n slots
pub record AreGoodSlots (version : Version) (bytes : List ℕ) (n : ℕ) : Type 0 where
  pub in_place : AreInPlace bytes n
  pub records : TellRecords bytes n
  pub of_version : AreSlotsOf version bytes n

pub record IsLaidOut (bytes : List ℕ) : Type 0 where
  pub header : HasGoodHeader bytes
  pub room : 16 + 6 * slot_count bytes ≤ low bytes
  pub in_place : AreInPlace bytes (slot_count bytes)
  pub low_is : low bytes ≡ end_of bytes (slot_count bytes)
  pub gap : IsClear bytes (16 + 6 * slot_count bytes) (low bytes)
  pub distinct : HaveDistinctKeys bytes (slot_count bytes)
  pub records : TellRecords bytes (slot_count bytes)
