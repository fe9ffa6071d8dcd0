-- A device that C serves by a handle.
use Rattle.std.specs.Prelude.{◌≡◌, ◌⊎◌, ℕ, ℤ, pos, Bool, true, false, List, reverse, slice_get, Option, Some, None}
use Rattle.dbm_model.specs.Calls.{Memory}
use Rattle.sect_dev.specs.Serving.{IsTrueOf, listed_after}
use Rattle.sect_dev.specs.declared.past.Event.{Event}
use Rattle.sect_dev.specs.declared.past.Event.TheVariants.{Wrote, Synced}
use Rattle.sect_dev.specs.declared.served.Told.{Told}
use Rattle.dbm_file.specs.Database.{AtEachHandle}
use Rattle.dbm_file.specs.Verifying.{IsReadThrough, StaysAt}
use Rattle.listed_dev.specs.Listed.{history, list_of, lacked_by}
use Rattle.listed_dev.specs.contracts.listed_dev.ListedDevSectorDev.TheImpl.{ghosts as served}
use Rattle.listed_dev.specs.declared.listed_dev.ListedDev.{ListedDev}
use Rattle.ndbm_calls.specs.Statuses.{refusal_of}
use Rattle.ndbm_c.specs.Held.{device_in}
use Rattle.dbm_file.specs.Opened.{device_below}
use Rattle.ndbm_c.specs.declared.handle.Opened.{Opened}
use Rattle.ndbm_c.specs.declared.handle.Open.{Open}
use Rattle.ndbm_c.specs.declared.handle.Open.TheVariants.{Nothing, Device, Database}

-- what is told is true of the device, where there is one
abbrev pub IsTrueOn : Option ListedDev → Told → Type 0
IsTrueOn (Some dev) told = IsTrueOf (served.seen dev) told
IsTrueOn None told = Unit

abbrev pub IsTrueIn : Option Open → Told → Type 0
IsTrueIn held told = IsTrueOn (device_in held) told

-- the sector that the device lacked
abbrev pub TellsLackOf : Option ListedDev → Bool → ℕ → Type 0
TellsLackOf (Some dev) true n = lacked_by dev ≡ Some n
TellsLackOf (Some dev) false n = lacked_by dev ≡ None
TellsLackOf None lacks n = lacks ≡ false

abbrev pub TellsLack : Option Open → Bool → ℕ → Type 0
TellsLack held lacks n = TellsLackOf (device_in held) lacks n

-- by its number: no change, a write of these bytes, or a sync
abbrev pub IsNumberOf : Option Event → ℤ → ℕ → List ℕ → Type 0
IsNumberOf (Some (Wrote n content)) number sector bytes =
    (number ≡ pos 1) × (sector ≡ n) × (bytes ≡ content)
IsNumberOf (Some Synced) number sector bytes = number ≡ pos 2
IsNumberOf None number sector bytes = number ≡ pos 0

-- change i of the list, the oldest first
abbrev pub TellsChangeOf : Option ListedDev → ℕ → ℤ → ℕ → List ℕ → Type 0
TellsChangeOf (Some dev) i number sector bytes =
    IsNumberOf (slice_get (reverse (list_of dev)) i) number sector bytes
TellsChangeOf None i number sector bytes = number ≡ pos 0

abbrev pub TellsChange : Option Open → ℕ → ℤ → ℕ → List ℕ → Type 0
TellsChange held i number sector bytes = TellsChangeOf (device_in held) i number sector bytes

-- a device that was told so
pub record ToldDevice (told : Told) (old new : ListedDev) : Type 0 where
  pub history : history new ≡ history old
  pub listed : list_of new ≡ listed_after told (list_of old)
  pub lacked : lacked_by new ≡ None
  pub size : served.sectors new ≡ served.sectors old

-- a database whose device was told so, and which is at the handle that it was at
pub record ToldDatabase (told : Told) (old new : Opened) : Type 0 where
  pub stays : AtEachHandle old.db (StaysAt old.db new.db)
  pub read : IsReadThrough old.db new.db
  pub seen : served.seen (device_below new.db) ≡ served.seen (device_below old.db)
  pub listed : list_of (device_below new.db) ≡ listed_after told (list_of (device_below old.db))
  pub group : new.group ≡ old.group

abbrev pub IsTold : Told → Open → Open → Type 0
IsTold told (Device old) (Device new) = ToldDevice told old new
IsTold told (Database old) (Database new) = ToldDatabase told old new
IsTold told Nothing new = new ≡ Nothing
IsTold told old new = ⊥

-- it was told so, or there was no memory for it
pub record IsServed (told : Told) (old new : Open) (status : ℤ) : Type 0 where
  pub is_told : IsTold told old new
  pub answered : (status ≡ pos 0) ⊎ (status ≡ refusal_of Memory)
