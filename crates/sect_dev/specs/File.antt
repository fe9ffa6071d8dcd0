-- What a device over a file shows.
use Rattle.std.specs.Prelude.{◌≡◌, ◌⊎◌, ◌+◌, ◌-◌, ◌^◌, ℕ, List, false, Bool}
use Rattle.sect_dev.specs.declared.file_dev.FileDev.{FileDev}
use Rattle.sect_dev.specs.FileHistory.{Change, FileHistory, history_of, RecordsCalls}

abbrev pub file_history : FileDev → FileHistory
file_history dev = history_of dev.file

-- the next change is this one
abbrev pub IsNextChange : FileDev → Change → Type 0
IsNextChange dev change = RecordsCalls dev.file → (file_history dev).change dev.changes ≡ change

-- a read from this byte on is given these bytes
abbrev pub Gave : FileDev → ℕ → List ℕ → Type 0
Gave dev at bytes = RecordsCalls dev.file → (file_history dev).gave dev.changes at bytes

-- all but the faults is as it was
pub record IsSame (old new : FileDev) : Type 0 where
  pub file : new.file ≡ old.file
  pub changes : new.changes ≡ old.changes
  pub capacity : new.capacity ≡ old.capacity

-- the system was asked for this change, which is the next one, and all else is as it was
pub record IsChanged (old new : FileDev) (change : Change) : Type 0 where
  pub file : new.file ≡ old.file
  pub changes : new.changes ≡ old.changes + 1
  pub capacity : new.capacity ≡ old.capacity
  pub faults : new.faults ≡ old.faults
  pub next : IsNextChange old change

-- the system was asked for this change and answered so, or no more changes can be counted, and the
-- call failed
pub record AsksSystem (old new : FileDev) (change : Change) (ok : Bool) : Type 0 where
  pub file : new.file ≡ old.file
  pub answered : ((new.changes ≡ old.changes + 1) × IsNextChange old change)
      ⊎ ((new.changes ≡ old.changes) × (ok ≡ false) × (old.changes ≡ 2 ^ 64 - 1))
