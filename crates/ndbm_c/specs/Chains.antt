-- Periods of handles that share a file are a chain of the model of several handles.
use Rattle.std.specs.Prelude.{◌≡◌, ◌/◌, ℕ, Bool, false, List, [], ◌∷◌, None}
use Rattle.dbm_model.specs.Bounds.{Bounds}
use Rattle.dbm_model.specs.Pairs.{Contents}
use Rattle.dbm_model.specs.States.{NotBegun}
use Rattle.dbm_sharing.specs.Periods.{Period, Answered, CutByDevice, CutByDeath, Opened, Replaced, Chain}
use Rattle.page_io.specs.Meaning.{ImageStandsFor}
use Rattle.redo_area.specs.File.{settled}
use Rattle.sect_dev.specs.History.{content_after}
use Rattle.ndbm_calls.specs.Statuses.{status_of, GivesBytes}
use Rattle.ndbm_c.specs.Holders.{SharedFile, shared_of, FileStands, IsSynced}
use Rattle.ndbm_c.specs.Periods.{FilePeriod, Called, Cut, Broken, Started, Renamed, Periods}

-- the period as one of the model: the reply of a call is the one that its status and its bytes tell
abbrev pub IsToldAs : FilePeriod → Period → Type 0
IsToldAs (Called who call status bytes) (Answered other asked reply) =
    (other ≡ who) × (asked ≡ call) × (status ≡ status_of reply) × GivesBytes reply bytes
IsToldAs (Called who call status bytes) other = ⊥
IsToldAs (Cut who call) period = (made : Bool) × (period ≡ CutByDeath who call made)
IsToldAs (Broken who call) period = (made : Bool) × (period ≡ CutByDevice who call made)
IsToldAs (Started who writable) period = period ≡ Opened who writable
IsToldAs (Renamed map bounds) period = period ≡ Replaced map bounds

-- each of them
abbrev pub AreToldAs : List FilePeriod → List Period → Type 0
AreToldAs [] [] = Unit {0}
AreToldAs (period ∷ periods) (told ∷ others) = IsToldAs period told × AreToldAs periods others
AreToldAs [] (told ∷ others) = ⊥
AreToldAs (period ∷ periods) [] = ⊥

-- What a read of the file gives stands for the map. Where no writer has left it, whatever a stop may
-- leave of it stands for that, and nothing of it is unsynced.
pub record IsSound (sectors : ℕ) (file : SharedFile) (map : Contents) (bounds : Bounds) : Type 0
  where
    pub stands : ImageStandsFor (settled (sectors / 4) (content_after file.past)) map bounds
    pub all_stand : file.is_left ≡ false → FileStands sectors file.past map bounds
    pub synced : file.is_left ≡ false → IsSynced file.past

-- no writer has left it, and no handle has a database or a pass
pub record IsUnshared (file : SharedFile) : Type 0 where
  pub turn : file.is_left ≡ false
  pub none : (who : ℕ) → (file.holders who).held ≡ None
  pub no_pass : (who : ℕ) → (file.holders who).pass ≡ NotBegun

-- The periods are a chain from the map that the file stood for to the one that it stands for then.
pub record AreAChain (sectors : ℕ) (before : SharedFile) (map : Contents) (bounds : Bounds)
    (periods : List FilePeriod) (after : SharedFile) : Type 0 where
  pub told : List Period
  pub are_told : AreToldAs periods told
  pub left : Contents
  pub within : Bounds
  pub chain : Chain (sectors / 4) (shared_of before map bounds) told (shared_of after left within)
  pub sound : IsSound sectors after left within

abbrev pub PeriodsAreAChain : Type 0
PeriodsAreAChain = (sectors : ℕ) (before after : SharedFile) (map : Contents) (bounds : Bounds)
    (periods : List FilePeriod) → IsSound sectors before map bounds → IsUnshared before
    → Periods sectors before periods after → AreAChain sectors before map bounds periods after
