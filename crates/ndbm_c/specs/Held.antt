-- A call by way of a handle.
use Rattle.std.specs.Prelude.{◌≡◌, ◌≤◌, ℕ, ℤ, pos, List, [], length, Option, Some, None}
use Rattle.std.specs.Borrow.{Bor}
use Rattle.dbm_model.specs.Bounds.{V1}
use Rattle.dbm_model.specs.Calls.{Broken, Call, Upgrade}
use Rattle.dbm_model.specs.Pairs.{Pair}
use Rattle.dbm_file.specs.Changing.{WasStored, WasDeleted, WasUpgraded}
use Rattle.dbm_model.specs.States.{Behind}
use Rattle.dbm_file.specs.Database.{store_of, meta_kept, error_of, AtEachHandle}
use Rattle.dbm_file.specs.Opened.{device_below}
use Rattle.dbm_file.specs.Passing.{pass_of}
use Rattle.listed_dev.specs.declared.listed_dev.ListedDev.{ListedDev}
use Rattle.ndbm_calls.specs.Statuses.{refusal_of, IsAnswered, IsRaised, IsTold}
use Rattle.ndbm_c.specs.declared.handle.Open.{Open}
use Rattle.ndbm_c.specs.declared.handle.Open.TheVariants.{Nothing, Device, Database}
use Rattle.ndbm_c.specs.declared.handle.Opened.{Opened}

-- What a handle holds goes from the old one to the new one so, with this status. One that holds none
-- stays so, and the status is that of Broken.
abbrev pub OnHandle : Option Open → Option Open → ℤ → (Open → Open → ℤ → Type 0) → Type 0
OnHandle (Some old) (Some new) status Goes = Goes old new status
OnHandle (Some old) None status Goes = ⊥
OnHandle None new status Goes = (status ≡ refusal_of Broken) × (new ≡ None)

-- The database goes from the old one to the new one so. What is none stays as it is, and the status is
-- that of Broken.
abbrev pub OnOpen : Open → Open → ℤ → (Opened → Opened → Type 0) → Type 0
OnOpen (Database old) (Database new) status Goes = Goes old new
OnOpen (Database old) other status Goes = ⊥
OnOpen old new status Goes = (status ≡ refusal_of Broken) × (new ≡ old)

abbrev pub OnDatabase : Option Open → Option Open → ℤ → (Opened → Opened → Type 0) → Type 0
OnDatabase old new status Goes = OnHandle old new status (λ o n s. OnOpen o n s Goes)

-- by a call
pub record Calls (call : Call) (status : ℤ) (bytes : List ℕ) (old new : Opened) : Type 0 where
  pub answered : IsAnswered old.db new.db call status bytes
  pub group : new.group ≡ old.group

-- The pass stands behind this key, where it is as long as one may be.
pub record Resumes (key : List ℕ) (status : ℤ) (old new : Opened) : Type 0 where
  pub zero : status ≡ pos 0
  pub behind : length key ≤ 2026 → pass_of new.db ≡ Behind key
  pub still : (store_of new.db ≡ store_of old.db) × (meta_kept new.db ≡ meta_kept old.db)
      × (error_of new.db ≡ error_of old.db)
  pub group : new.group ≡ old.group

-- The database has version 2 now, or was refused. On any file of version 1 nothing but the version has
-- changed where it is done.
pub record Upgrades (status : ℤ) (old new : Opened) : Type 0 where
  pub step : AtEachHandle old.db (λ h. IsTold old.db new.db h Upgrade status [])
  pub ends : IsRaised old.db new.db status
  pub pass : pass_of new.db ≡ pass_of old.db
  pub upgraded : status ≡ pos 0 → (meta_kept old.db).bounds.version ≡ V1
      → WasUpgraded old.db new.db
  pub group : new.group ≡ old.group

-- on any file: where it is done, the pair was put into its bucket, and the key was taken out of it
abbrev pub StoresIn : Pair → ℤ → Opened → Opened → Type 0
StoresIn pair status old new = status ≡ pos 0 → WasStored old.db new.db pair

abbrev pub DeletesIn : List ℕ → ℤ → Opened → Opened → Type 0
DeletesIn key status old new = status ≡ pos 0 → WasDeleted old.db new.db key

-- the device, or the one below the database
abbrev pub device_of : Open → Option ListedDev
device_of (Device dev) = Some dev
device_of (Database opened) = Some (device_below opened.db)
device_of Nothing = None

abbrev pub device_in : Option Open → Option ListedDev
device_in (Some held) = device_of held
device_in None = None

-- a device with no database on it, and a database
abbrev pub device_alone : Open → Option ListedDev
device_alone (Device dev) = Some dev
device_alone other = None

abbrev pub database_alone : Open → Option Opened
database_alone (Database opened) = Some opened
database_alone other = None

-- a device that is lent, or none
abbrev pub lent : Option (Bor ListedDev) → Option ListedDev
lent (Some dev) = Some dev.now
lent None = None
