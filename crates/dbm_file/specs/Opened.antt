-- A database over a device.
use Rattle.std.specs.Prelude.{◌≡◌, ◌⊎◌, ℕ, ◌*◌, ◌≤◌, Bool, true, Option, None, Some, max, min, Result, Ok, Err}
use Rattle.dbm_model.specs.Bounds.{Bounds}
use Rattle.sect_dev.specs.Device.{Image, Candidates, IsImageOf}
use Rattle.sect_dev.specs.declared.device.SectorDev.{Ghosts}
use Rattle.page_io.specs.Store.{blank}
use Rattle.page_io.specs.Meaning.{ImageStandsFor}
use Rattle.page_io.specs.declared.store.PageStore as store
use Rattle.redo_area.specs.File.{settled}
use Rattle.redo_area.specs.Pagers.{device_of, kind_at}
use Rattle.redo_area.specs.declared.header.CommitKind.{CommitKind}
use Rattle.redo_area.specs.declared.pager.Pager.{Pager}
use Rattle.page_cache.specs.Stores.{store_below}
use Rattle.page_cache.specs.declared.cached_pages.CachedPages.{CachedPages}
use Rattle.dbm_model.specs.Pairs.{Contents}
use Rattle.dbm_model.specs.Sizes.{home}
use Rattle.dbm_model.specs.States.{NotBegun, Handle}
use Rattle.dbm_model.specs.States as model
use Rattle.dbm_file.specs.Passing.{pass_of}
use Rattle.dbm_file.specs.Database.{store_of, meta_kept, page_state, error_of, IsAt}
use Rattle.dbm_fault.specs.declared.fault.Fault.{Fault}
use Rattle.dbm_file.specs.declared.database.Database.{Database}

-- the device below the copies of pages
abbrev pub device_below : {D : Type 0} {bound : Ghosts D} {p : store.Ghosts (Pager D bound)}
    {s : store.Ghosts (CachedPages (Pager D bound) p)}
    → Database (CachedPages (Pager D bound) p) s → D
device_below db = device_of (store_below (store_of db))

-- how the file's commits are made
abbrev pub kind_below : {D : Type 0} {bound : Ghosts D} {p : store.Ghosts (Pager D bound)}
    {s : store.Ghosts (CachedPages (Pager D bound) p)}
    → Database (CachedPages (Pager D bound) p) s → CommitKind
kind_below db = kind_at (store_below (store_of db))

-- the device that an opening was given, whatever it answers
abbrev pub device_opened : {D : Type 0} {bound : Ghosts D} {p : store.Ghosts (Pager D bound)}
    {s : store.Ghosts (CachedPages (Pager D bound) p)}
    → Result (Database (CachedPages (Pager D bound) p) s) (D × Fault) → D
device_opened (Ok db) = device_below db
device_opened (Err e) = e.0

-- how many pages are kept in memory at most: 256 where none is asked for, else 1 to 65,536
abbrev pub pages_kept : Option ℕ → ℕ
pages_kept None = 256
pages_kept (Some pages) = max 1 (min pages 65536)

-- a database as an opening leaves it
pub record IsNewlyOpened {S : Type 0} {s : store.Ghosts S} (for_writing : Bool) (pages : ℕ)
    (db : Database S s) : Type 0 where
  pub usable : (page_state db).usable ≡ true
  pub writable : (page_state db).writable ≡ for_writing
  pub capacity : (page_state db).capacity ≡ pages
  pub no_error : error_of db ≡ None
  pub no_pass : pass_of db ≡ NotBegun

-- each image is blank or stands for a map, and a device of so many pages has twice those that a
-- database of its bounds needs
abbrev pub AllHaveRoom : ℕ → Candidates → Type 0
AllHaveRoom pages start = (image : Image) → IsImageOf start image
    → (settled pages image ≡ blank)
    ⊎ ((map : Contents) × (bounds : Bounds) × ImageStandsFor (settled pages image) map bounds
    × (2 * home bounds ≤ pages))

-- there is room for twice as many pages as a database of its bounds needs
pub record HasRoom {S : Type 0} {s : store.Ghosts S} (db : Database S s) : Type 0 where
  pub room : 2 * home (meta_kept db).bounds ≤ (page_state db).capacity

-- just opened, its file stands for this map and these bounds
pub record IsOpenedAt {S : Type 0} {s : store.Ghosts S} (writable : Bool) (db : Database S s)
    (map : Contents) (bounds : Bounds) : Type 0 where
  pub handle : Handle
  pub is_at : IsAt db handle
  pub is_fresh : handle.state ≡ model.fresh map bounds writable
