-- Rooms for the contents and keys that calls give.
use Rattle.std.specs.Prelude.{◌≡◌, ℕ, ◌≤◌, Bool, true, false, List, [], All, count_by, vec_len, vec_capacity}
use Rattle.std.specs.Global.{Vec}
use Rattle.dbm_model.specs.Bounds.{Version, V1, V2}
use Rattle.dbm_file.specs.declared.calls.Call.{Call}
use Rattle.dbm_file.specs.declared.calls.Call.TheVariants.{Fetch, First, Next}
use Rattle.dbm_file.specs.declared.running.Rooms.{Rooms}

-- the most bytes that a content has in a file of this version
abbrev pub longest_content : Version → ℕ
longest_content V1 = 2026
longest_content V2 = 65535

abbrev pub gives_content : Call → Bool
gives_content (Fetch key) = true
gives_content _ = false

abbrev pub gives_key : Call → Bool
gives_key First = true
gives_key Next = true
gives_key _ = false

-- empty, and with room for so many bytes
pub record IsRoom (size : ℕ) (room : Vec ℕ) : Type 0 where
  pub empty : room.items ≡ []
  pub large : size ≤ vec_capacity room

-- so many rooms of that size
pub record AreRooms (size count : ℕ) (rooms : Vec (Vec ℕ)) : Type 0 where
  pub many : vec_len rooms ≡ count
  pub each : All (IsRoom size) rooms.items

-- one of this size for each call that gives a content, and one for each that gives a key
pub record AreRoomsFor (longest : ℕ) (calls : List Call) (rooms : Rooms) : Type 0 where
  pub contents : AreRooms longest (count_by gives_content calls) rooms.contents
  pub keys : AreRooms 2026 (count_by gives_key calls) rooms.keys
