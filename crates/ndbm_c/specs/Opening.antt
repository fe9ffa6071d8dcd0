-- A device over a file that C serves, and the database on it.
use Rattle.std.specs.Prelude.{◌≡◌, ◌≢◌, ◌⊎◌, ◌/◌, nat_eq, ℤ, pos, true, false, if◌then◌else◌, [], Option, Some, None}
use Rattle.dbm_model.specs.Bounds.{Bounds}
use Rattle.sect_dev.specs.Device.{IsStable, LeavesOnly, MoreFaults}
use Rattle.sect_dev.specs.Moments.{IsOutcome}
use Rattle.sect_dev.specs.Reads.{OnlyReads}
use Rattle.dbm_model.specs.Calls.{Broken}
use Rattle.dbm_model.specs.Pairs.{Contents}
use Rattle.redo_area.specs.File.{settled}
use Rattle.dbm_fault.specs.Faults.{fault_of}
use Rattle.dbm_fault.specs.declared.fault.Fault as code
use Rattle.dbm_fault.specs.declared.fault.Fault.TheVariants as faults
use Rattle.file_opening.specs.Opening.{writes, early_fault, IsRefusedOpening, MayRemain, AllAllow, AllStand, KeepsMeta, IsOpened}
use Rattle.file_opening.specs.declared.open_how.OpenHow.{OpenHow}
use Rattle.file_opening.specs.declared.open_how.Access.TheVariants.{ReadOnly, ReadWrite}
use Rattle.page_io.specs.declared.version.Version.TheVariants.{V1, V2}
use Rattle.redo_area.specs.declared.header.CommitKind.TheVariants.{Images, Log}
use Rattle.dbm_file.specs.Database.{meta_kept}
use Rattle.dbm_file.specs.Opened.{device_below, HasRoom, IsNewlyOpened, IsOpenedAt}
use Rattle.listed_dev.specs.Listed.{history, list_of}
use Rattle.listed_dev.specs.contracts.listed_dev.ListedDevSectorDev.TheImpl.{ghosts as served}
use Rattle.listed_dev.specs.declared.listed_dev.ListedDev.{ListedDev}
use Rattle.ndbm_calls.specs.Closing.{Closes}
use Rattle.ndbm_calls.specs.Groups.{pairs_in}
use Rattle.ndbm_calls.specs.Statuses.{refusal_of}
use Rattle.ndbm_c.specs.declared.handle.Open.{Open}
use Rattle.ndbm_c.specs.declared.handle.Open.TheVariants.{Nothing, Device, Database}
use Rattle.ndbm_c.specs.declared.handle.Opened.{Opened}
use Rattle.ndbm_c.specs.declared.how.How.{How}
use Rattle.ndbm_c.specs.declared.how.ServedFile.{ServedFile}

-- how C asks, in the words of `dbm_file`
abbrev pub how_of : How → OpenHow
how_of how = record {
  access = if how.writable then ReadWrite else ReadOnly;
  create = how.create;
  exclusive = how.exclusive;
  truncate = how.truncate;
  limit = how.limit;
  version = if how.first_version then V1 else V2;
  commits = if how.first_version then Images else Log;
  kept_pages = Some (if nat_eq how.kept_pages 0 then 16384 else how.kept_pages);
}

-- it holds a device of the file's size, to which happened what happened to the file
pub record IsOver (file : ServedFile) (dev : ListedDev) : Type 0 where
  pub history : history dev ≡ file.past.events
  pub listed : list_of dev ≡ []
  pub size : served.sectors dev ≡ file.sectors

abbrev pub Begins : ServedFile → Option Open → Type 0
Begins file (Some (Device dev)) = IsOver file dev
Begins file other = ⊥

-- The device was opened so: what is opened holds a map that an image of the device stands for, or is
-- new and empty; and every image of every moment settles as one did at the start, or stands for the
-- empty database that was asked for.
pub record IsOpening (how : OpenHow) (dev : ListedDev) (opened : Opened) : Type 0 where
  pub fresh : IsNewlyOpened (writes how.access) (served.sectors dev / 4) opened.db
  pub stands : (writes how.access ≡ false → IsStable (served.candidate dev) (served.seen dev))
      → AllStand (served.sectors dev / 4) (served.candidate dev)
      → (map : Contents) × (bounds : Bounds) × IsOpenedAt (writes how.access) opened.db map bounds
      × IsOpened how (served.sectors dev) (served.candidate dev) map bounds
  pub any_moment : LeavesOnly served.moment
      (IsOutcome served.left_since (settled (served.sectors dev / 4))) dev
      (device_below opened.db) (MayRemain how (served.sectors dev) (served.candidate dev))
  -- what is kept of the meta page is what a file at the start says, whatever else is in it
  pub keeps : KeepsMeta how (served.sectors dev) (served.candidate dev) (meta_kept opened.db)
  pub only_reads : writes how.access ≡ false → OnlyReads served dev (device_below opened.db)
  pub room : served.sectors dev ≡ 273001992 → HasRoom opened.db
  pub group : pairs_in opened.group ≡ []

-- It was refused by this fault, which says so of the device, and the device was left so.
pub record IsRefusal (how : OpenHow) (dev left : ListedDev) (fault : code.Fault) : Type 0 where
  pub early : (early : code.Fault) → early_fault how (served.sectors dev) ≡ Some early
      → (fault ≡ early) × (left ≡ dev)
  pub refused : early_fault how (served.sectors dev) ≡ None → fault ≢ faults.Device
      → IsRefusedOpening how (served.sectors dev) (served.candidate dev) (served.candidate left) fault
  pub allowed : early_fault how (served.sectors dev) ≡ None
      → AllStand (served.sectors dev / 4) (served.candidate dev)
      → AllAllow how (served.sectors dev) (served.candidate dev)
      → (fault ≡ faults.Device)
      ⊎ ((fault ≡ faults.Memory) × ((how.truncate ≡ true) ⊎ (writes how.access ≡ false)))
  pub device : fault ≡ faults.Device → MoreFaults (served.faults dev) (served.faults left)
  pub any_moment : LeavesOnly served.moment
      (IsOutcome served.left_since (settled (served.sectors dev / 4))) dev left
      (MayRemain how (served.sectors dev) (served.candidate dev))
  pub only_reads : writes how.access ≡ false → OnlyReads served dev left
  pub size : how.truncate ≡ false → served.sectors left ≡ served.sectors dev

-- an opening of a device, by its status; what is no device stays
abbrev pub OpensAs : OpenHow → Open → Open → ℤ → Type 0
OpensAs how (Device dev) (Database opened) status = (status ≡ pos 0) × IsOpening how dev opened
OpensAs how (Device dev) (Device left) status =
    (fault : code.Fault) × (status ≡ refusal_of (fault_of fault)) × IsRefusal how dev left fault
OpensAs how (Device dev) Nothing status = ⊥
OpensAs how other new status = (status ≡ refusal_of Broken) × (new ≡ other)

-- the end of a database; what is none stays
abbrev pub ClosesAs : Open → Open → ℤ → Type 0
ClosesAs (Database opened) (Device left) status = Closes served opened.db left status
ClosesAs (Database opened) other status = ⊥
ClosesAs old new status = (status ≡ refusal_of Broken) × (new ≡ old)
