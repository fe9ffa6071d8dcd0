-- Several handles over one map.
use Rattle.std.specs.Prelude.{◌≡◌, ◌≢◌, ℕ, Bool, true, Option, None}
use Rattle.dbm_model.specs.Bounds.{Bounds}
use Rattle.dbm_model.specs.Calls.{Fault}
use Rattle.dbm_model.specs.Members.{Member, Holding}
use Rattle.dbm_model.specs.Pairs.{Contents}
use Rattle.dbm_model.specs.Sessions.{Disk, IsOn}
use Rattle.dbm_model.specs.States.{State, Pass, NotBegun, Handle}

-- what a handle has of its own: its error, its pass, and whether it was opened for changes
pub record Own : Type 0 where
  pub error : Option Fault
  pub pass : Pass
  pub writable : Bool

-- just opened
abbrev pub just_opened : Bool → Own
just_opened writable = record { error = None; pass = NotBegun; writable = writable }

-- one map with its bounds, and what each handle has of its own, by a number
pub record Shared : Type 0 where
  pub map : Contents
  pub bounds : Bounds
  pub own : ℕ → Own

-- The state of a handle between its calls. It is usable, since one that a fault of the device broke
-- opens the file anew.
abbrev pub state_of : Shared → ℕ → State
state_of s who = record {
  map = s.map;
  bounds = s.bounds;
  error = (s.own who).error;
  pass = (s.own who).pass;
  writable = (s.own who).writable;
  usable = true;
}

-- what the file stands for
abbrev pub file_of : Shared → Member
file_of s = Holding s.map s.bounds

-- all other handles have what they had
abbrev pub OthersStay : ℕ → Shared → Shared → Type 0
OthersStay who before after = (other : ℕ) → other ≢ who → after.own other ≡ before.own other

-- A handle of the model at this state, of a good file on a device of so many pages. A handle may
-- open the file anew for each call, on a new device that counts its faults from none. So what a
-- caller can't choose is each call's own, and nothing ties it to another call: whoever shows that
-- calls are a chain need not know it of the calls before.
pub record IsHandleAt (pages : ℕ) (s : State) (h : Handle) : Type 0 where
  pub state : h.state ≡ s
  pub disk : Disk
  pub size : disk.pages ≡ pages
  pub is_on : IsOn disk h
