-- A database over a file of the system, and how a command opens it.
use Rattle.std.specs.Prelude.{◌≡◌, ◌≢◌, ◌⊎◌, ℕ, ◌&&◌, true, false, None, Result, Ok, Err, OnOk, IfOk, IfErr}
use Rattle.sect_dev.specs.declared.device.SectorDev as device
use Rattle.page_io.specs.declared.store.PageStore as store
use Rattle.redo_area.specs.declared.pager.Pager.{Pager}
use Rattle.page_cache.specs.declared.cached_pages.CachedPages.{CachedPages}
use Rattle.file_opening.specs.Opening.{writes}
use Rattle.file_opening.specs.declared.open_how.OpenHow.{OpenHow}
use Rattle.file_opening.specs.declared.open_how.Access.{Access}
use Rattle.file_opening.specs.declared.open_how.Access.TheVariants.{ReadWrite}
use Rattle.page_io.specs.declared.version.Version.{Version as FileVersion}
use Rattle.page_io.specs.declared.version.Version.TheVariants as file
use Rattle.dbm_file.specs.Database.{page_state}
use Rattle.dbm_file.specs.Named.{OpensFile, RefusesFile}
use Rattle.dbm_file.specs.Opened.{IsNewlyOpened}
use Rattle.dbm_file.specs.declared.database.Database.{Database}
use Rattle.dbm_file.specs.declared.named.Refusal.{Refusal as Named}
use Rattle.dbm_fault.specs.declared.fault.Fault.{Fault as Refusal}
use Rattle.dbm_fault.specs.declared.fault.Fault.TheVariants as refusal
use Rattle.dbm_fault.specs.declared.engine_fault.EngineFault.TheVariants.{Db}
use Rattle.dbm_commands.specs.declared.outcomes.Outcome.{Outcome}
use Rattle.dbm_commands.specs.declared.outcomes.Failure.{Failure}
use Rattle.dbm_commands.specs.declared.outcomes.Failure.TheVariants.{Fault}
use Rattle.dbm_command_line.specs.declared.plan.Version.{Version}
use Rattle.dbm_command_line.specs.declared.plan.Commits.{Commits}
use Rattle.dbm_command_line.specs.declared.plan.Commits.TheVariants.{Images, Log}
use Rattle.dbm_command_line.specs.declared.plan.Version.TheVariants.{V1, V2}
use Rattle.redo_area.specs.declared.header.CommitKind.{CommitKind}
use Rattle.redo_area.specs.declared.header.CommitKind.TheVariants as kind

-- the version of the format that the words ask for, as the file has it
abbrev pub version_of : Version → FileVersion
version_of V1 = file.V1
version_of V2 = file.V2

-- how commits are made that the words ask for, as the file has it
abbrev pub kind_of : Commits → CommitKind
kind_of Images = kind.Images
kind_of Log = kind.Log

-- how the database of a file is opened that has to be there
abbrev pub there : Access → OpenHow
there access = record {
  access = access;
  create = false;
  exclusive = false;
  truncate = false;
  limit = 0;
  version = file.V1;
  commits = kind.Images;
  kept_pages = None;
}

-- how a new one is made, where there is none
abbrev pub made_new : ℕ → Version → Commits → OpenHow
made_new limit version commits = record {
  access = ReadWrite;
  create = true;
  exclusive = true;
  truncate = false;
  limit = limit;
  version = version_of version;
  commits = kind_of commits;
  kept_pages = None;
}

-- An opening may be refused by this fault: by no fault that a call alone meets, and by Missing only
-- where none is to be made. One of the file's contents is told as it was.
pub record RefusesOpening {D : Type 0} (bound : device.Ghosts D) (how : OpenHow)
    (fault : Refusal) : Type 0 where
  pub no_call : (fault ≢ refusal.Broken) × (fault ≢ refusal.TooLong) × (fault ≢ refusal.Full)
      × (fault ≢ refusal.NoPass)
  pub missing : fault ≡ refusal.Missing → (writes how.access && how.create) ≡ false
  pub refused : fault ≢ refusal.Memory → fault ≢ refusal.Missing → fault ≢ refusal.Device
      → RefusesFile bound how fault

-- the file was opened so, or its opening was refused
abbrev pub IsOpening : {D : Type 0} (bound : device.Ghosts D) {p : store.Ghosts (Pager D bound)}
    {s : store.Ghosts (CachedPages (Pager D bound) p)} → OpenHow
    → Result (Database (CachedPages (Pager D bound) p) s) Named → Type 0
IsOpening bound how (Ok db) =
    OpensFile how db × IsNewlyOpened (writes how.access) 68250498 db
IsOpening bound how (Err named) = RefusesOpening bound how named.fault

-- the command ended since its opening was refused
abbrev pub IsUnopened : {D : Type 0} → device.Ghosts D → OpenHow → Result Outcome Failure → Type 0
IsUnopened bound how (Err (Fault (Db fault))) = RefusesOpening bound how fault
IsUnopened bound how result = ⊥

-- A database was closed after what ended so. Of two failures the earlier one is told.
pub record IsClosed {S : Type 0} {s : store.Ghosts S} (db : Database S s)
    (done result : Result Outcome Failure) : Type 0 where
  pub failed : IfErr done (λ failure. result ≡ Err failure)
  pub well : IfOk done (λ outcome. (page_state db).usable ≡ true
      → (result ≡ Ok outcome) ⊎ (result ≡ Err (Fault (Db refusal.Device))))
  pub broken : OnOk done ((page_state db).usable ≡ false
      → result ≡ Err (Fault (Db refusal.Broken)))

module _ {D : Type 0} {bound : device.Ghosts D} {p : store.Ghosts (Pager D bound)}
    (s : store.Ghosts (CachedPages (Pager D bound) p)) where
  -- A file was opened so, what was done with its database ended so and left it so, and it was closed.
  pub record OnFile (how : OpenHow)
      (Did : Database (CachedPages (Pager D bound) p) s
      → Database (CachedPages (Pager D bound) p) s → Result Outcome Failure → Type 0)
      (result : Result Outcome Failure) : Type 0 where
    pub opened : Database (CachedPages (Pager D bound) p) s
    pub after : Database (CachedPages (Pager D bound) p) s
    pub done : Result Outcome Failure
    pub opens : OpensFile how opened
    pub fresh : IsNewlyOpened (writes how.access) 68250498 opened
    pub did : Did opened after done
    pub closed : IsClosed after done result

  -- or the opening was refused
  abbrev pub Opens : OpenHow
      → (Database (CachedPages (Pager D bound) p) s
      → Database (CachedPages (Pager D bound) p) s → Result Outcome Failure → Type 0)
      → Result Outcome Failure → Type 0
  Opens how Did result = IsUnopened bound how result ⊎ OnFile how Did result
