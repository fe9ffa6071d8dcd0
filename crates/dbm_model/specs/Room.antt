-- The room of a file: that it is known beforehand, what a call keeps of it, told from the reply,
-- and examples.
use Rattle.std.specs.Prelude.{◌≡◌, ◌≢◌, ◌≤◌, ◌*◌, ℕ, All, List}
use Rattle.dbm_model.specs.Bounds.{Bounds, in_v1, in_v2}
use Rattle.dbm_model.specs.Calls.{Call, Store, Replace, Reply, Stored, Refused, NoRoom}
use Rattle.dbm_model.specs.Sizes.{home}
use Rattle.dbm_model.specs.States.{Handle}
use Rattle.dbm_model.specs.Steps.{Step, Run}
use Rattle.dbm_model.specs.Examples.{new_database, one}

-- a call keeps the capacity, and where it isn't a store that was acknowledged the number of pages
-- and that of buckets
abbrev pub RoomStays : Type 0
RoomStays = (before after : Handle) (call : Call) (reply : Reply) → Step before call reply after →
    (after.capacity ≡ before.capacity) × ((reply ≡ Stored → ⊥) → (after.pages ≡ before.pages)
    × (after.buckets ≡ before.buckets))

-- there is room for twice as many pages as a database of the bounds needs
abbrev pub HasRoom : Handle → Type 0
HasRoom h = 2 * home h.state.bounds ≤ h.capacity

-- no reply says that there is no room
abbrev pub AreNeverShort : List Reply → Type 0
AreNeverShort replies = All (λ reply. reply ≢ Refused NoRoom) replies

-- where there is room, there is room for every list of calls, and after it
abbrev pub RoomIsKnown : Type 0
RoomIsKnown = (before after : Handle) (calls : List Call) (replies : List Reply) → HasRoom before
    → Run before calls replies after → AreNeverShort replies × HasRoom after

-- no call makes the file larger than a database of the bounds needs
abbrev pub PagesAreBounded : Type 0
PagesAreBounded = (before after : Handle) (calls : List Call) (replies : List Reply)
    → before.pages ≤ home before.state.bounds → Run before calls replies after
    → after.pages ≤ home after.state.bounds

-- a new database with room for so many pages
abbrev pub with_room : Bounds → ℕ → Handle
with_room bounds capacity = record (new_database bounds) { capacity = capacity }

abbrev pub IsFirstStore : Bounds → ℕ → Reply → Handle → Type 0
IsFirstStore bounds capacity reply after =
    Step (with_room bounds capacity) (Store (one 0x61) (one 0x01) Replace) reply after

-- room for 15 pages may be too little for a first store, room for 16 is not, and it leaves at most
-- 8 pages and one bucket; with a limit of one pair, room for 9 may be too little, and room for 10
-- is not. In version 2 room for 81 may be too little, and room for 82 is not, and with a limit of
-- one pair room for 75 and 76
pub record RoomExamples : Type 0 where
  pub short : (after : Handle) × IsFirstStore (in_v1 100) 15 (Refused NoRoom) after
  pub enough : (after : Handle) → IsFirstStore (in_v1 100) 16 (Refused NoRoom) after → ⊥
  pub short_of_one : (after : Handle) × IsFirstStore (in_v1 1) 9 (Refused NoRoom) after
  pub enough_for_one : (after : Handle) → IsFirstStore (in_v1 1) 10 (Refused NoRoom) after → ⊥
  pub short_v2 : (after : Handle) × IsFirstStore (in_v2 100) 81 (Refused NoRoom) after
  pub enough_v2 : (after : Handle) → IsFirstStore (in_v2 100) 82 (Refused NoRoom) after → ⊥
  pub short_of_one_v2 : (after : Handle) × IsFirstStore (in_v2 1) 75 (Refused NoRoom) after
  pub enough_for_one_v2 : (after : Handle) → IsFirstStore (in_v2 1) 76 (Refused NoRoom) after → ⊥
  pub eight : (capacity : ℕ) (after : Handle) → IsFirstStore (in_v1 100) capacity Stored after
      → after.pages ≤ 8
  pub one_bucket : (capacity : ℕ) (after : Handle) → IsFirstStore (in_v1 100) capacity Stored after
      → after.buckets ≡ 1
