-- How a commit may be made.
use Rattle.std.specs.Prelude.{◌≡◌, ◌≤◌, ◌<◌, ◌+◌, ◌^◌, ℕ, Some}
use Rattle.redo_area.specs.declared.area.RedoArea.{RedoArea}
use Rattle.redo_area.specs.declared.committing.Way.{Way}
use Rattle.redo_area.specs.declared.committing.Way.TheVariants.{Next, First, Images}
use Rattle.redo_area.specs.declared.header.CommitKind.TheVariants.{Log}
use Rattle.redo_area.specs.Arming.{HasRoomAt}

-- in the log that there is, which has room for it, or in one that begins at a place with room; in
-- both cases the file may have one, and 15 pages fit
abbrev pub IsWay : RedoArea → ℕ → ℕ → ℕ → ℕ → Way → Type 0
IsWay area least new_end count capacity (Next log) =
    (area.kind ≡ Log) × (area.log ≡ Some log) × (new_end ≤ area.start)
    × (log.number + 1 < 2 ^ 32) × (count ≤ 15)
IsWay area least new_end count capacity (First place) =
    (area.kind ≡ Log) × HasRoomAt least 32 area.start area.held capacity place × (count ≤ 15)
IsWay area least new_end count capacity Images = Unit {0}
