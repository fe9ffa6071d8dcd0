-- What the file of a database may stand for, and what an opening makes of it.
use Rattle.std.specs.Prelude.{ℕ, ◌*◌, ◌≤◌, Bool, if◌then◌else◌, List, Contains}
use Rattle.std.specs.FinMap.{empty}
use Rattle.dbm_model.specs.Bounds.{Bounds}
use Rattle.dbm_model.specs.Pairs.{Contents}
use Rattle.dbm_model.specs.Sizes.{home}
use Rattle.dbm_model.specs.States.{State}

pub data Member : Type 0 where
  NoDatabase : Member
  -- a map, and how many pairs there may be, and how long
  Holding : Contents → Bounds → Member

-- what the file may stand for where a stop may have left one or another: a set, written as a list
abbrev pub Members : Type 0
Members = List Member

-- so many pages are twice those that a database of its bounds needs
abbrev pub HasRoomFor : ℕ → Member → Type 0
HasRoomFor pages NoDatabase = Unit {0}
HasRoomFor pages (Holding map bounds) = 2 * home bounds ≤ pages

abbrev pub AllHaveRoom : ℕ → Members → Type 0
AllHaveRoom pages members =
    (member : Member) → Contains members member → HasRoomFor pages member

-- what the file of an open database stands for
abbrev pub held : State → Member
held s = Holding s.map s.bounds

-- how a session is opened, always for writing (POSIX: O_RDWR, with O_CREAT, O_TRUNC or both)
pub record Opening : Type 0 where
  pub create : Bool
  pub truncate : Bool
  -- the bounds of a database that it creates or empties
  pub bounds : Bounds

-- what it makes of what it finds: it creates a database only where there is none, and empties only
-- one that is there
abbrev pub opened : Opening → Member → Member
opened how NoDatabase = if how.create then Holding empty how.bounds else NoDatabase
opened how (Holding map bounds) = if how.truncate then Holding empty how.bounds else Holding map bounds
