-- The state of an open database, as its callers know it. It has no page and no file.
use Rattle.std.specs.Prelude.{ℕ, Bool, true, Option, Some, None}
use Rattle.dbm_model.specs.Bounds.{Bounds}
use Rattle.dbm_model.specs.Calls.{Fault, number_of}
use Rattle.dbm_model.specs.Pairs.{Key, Contents}

-- where a pass stands
pub data Pass : Type 0 where
  -- none was begun since the opening
  NotBegun : Pass
  -- before all keys
  Begun : Pass
  -- behind this key, which was the last one given
  Behind : Key → Pass

pub record State : Type 0 where
  pub map : Contents
  -- how many pairs there may be, and how long
  pub bounds : Bounds
  -- the first fault since the opening or the last dbm_clearerr
  pub error : Option Fault
  pub pass : Pass
  -- opened for changes
  pub writable : Bool
  -- no change has been left in doubt
  pub usable : Bool

-- just opened
abbrev pub fresh : Contents → Bounds → Bool → State
fresh map bounds writable = record {
  map = map;
  bounds = bounds;
  error = None;
  pass = NotBegun;
  writable =
      writable;
  usable = true;
}

-- the first fault is kept
abbrev pub first_fault : Option Fault → Fault → Option Fault
first_fault None fault = Some fault
first_fault (Some earlier) fault = Some earlier

-- after a refusal (POSIX: the error condition of the database is set)
abbrev pub flagged : Fault → State → State
flagged fault s = record s { error = first_fault s.error fault }

-- what dbm_error gives
abbrev pub error_number : Option Fault → ℕ
error_number None = 0
error_number (Some fault) = number_of fault

-- an open database together with what its callers can't choose
pub record Handle : Type 0 where
  pub state : State
  -- how often the device below has failed
  pub faults : ℕ
  -- how many pages the file has, and how many there is room for
  pub pages : ℕ
  pub capacity : ℕ
  -- how many buckets its table has
  pub buckets : ℕ
