-- A file that handles share, and what C has of each handle between two of its calls.
use Rattle.std.specs.Prelude.{◌≡◌, ◌≢◌, ◌/◌, ℕ, Bool, List, Option, Some, None}
use Rattle.sect_dev.specs.Device.{Image, IsImageOf}
use Rattle.sect_dev.specs.History.{content_after, IsCandidate}
use Rattle.sect_dev.specs.declared.past.Event.{Event}
use Rattle.dbm_model.specs.Bounds.{Bounds}
use Rattle.dbm_model.specs.Calls.{Fault}
use Rattle.dbm_model.specs.Pairs.{Contents}
use Rattle.dbm_model.specs.States.{Pass}
use Rattle.page_io.specs.Meaning.{ImageStandsFor}
use Rattle.redo_area.specs.File.{settled}
use Rattle.dbm_file.specs.Database.{error_of}
use Rattle.dbm_sharing.specs.Anew.{kept_error}
use Rattle.dbm_sharing.specs.Handles.{Own, Shared}
use Rattle.ndbm_c.specs.declared.handle.Opened.{Opened}

-- what C has of a handle
pub record Holder : Type 0 where
  -- its database, where it has one
  pub held : Option Opened
  -- the first fault of the databases that it had before
  pub error : Option Fault
  -- where its pass stands
  pub pass : Pass
  -- whether it was opened for changes
  pub writable : Bool

-- a file by its past, and the handles by their numbers
pub record SharedFile : Type 0 where
  pub past : List Event
  -- a writer of it was cut short, and no writer was answered since: its turn is odd
  pub is_left : Bool
  pub holders : ℕ → Holder

abbrev pub error_in : Option Opened → Option Fault
error_in (Some opened) = error_of opened.db
error_in None = None

-- the first fault that the handle has met
abbrev pub own_error : Holder → Option Fault
own_error holder = kept_error holder.error (error_in holder.held)

abbrev pub own_of : Holder → Own
own_of holder = record {
  error = own_error holder;
  pass = holder.pass;
  writable = holder.writable;
}

-- the file and its handles, where it stands for this map
abbrev pub shared_of : SharedFile → Contents → Bounds → Shared
shared_of file map bounds = record {
  map = map;
  bounds = bounds;
  own = λ who. own_of (file.holders who);
}

-- Whatever a stop may leave of a file of so many sectors stands for the map.
abbrev pub FileStands : ℕ → List Event → Contents → Bounds → Type 0
FileStands sectors past map bounds = (image : Image) → IsImageOf (IsCandidate past) image
    → ImageStandsFor (settled (sectors / 4) image) map bounds

-- Nothing of the file is unsynced, but for its turn, which stands in sector 1.
abbrev pub IsSynced : List Event → Type 0
IsSynced past = (n : ℕ) (content : List ℕ) → n ≢ 1 → IsCandidate past n content
    → content ≡ content_after past n

-- But for the turn, a file with the first past shows what one with the other shows, and a stop leaves
-- nothing of it that it wouldn't leave of the other.
pub record IsSameFile (past other : List Event) : Type 0 where
  pub seen : (n : ℕ) → n ≢ 1 → content_after past n ≡ content_after other n
  pub left : (n : ℕ) (content : List ℕ) → n ≢ 1 → IsCandidate past n content
      → IsCandidate other n content
