-- A database that was closed.
use Rattle.std.specs.Prelude.{◌≡◌, ◌⊎◌, ◌↔◌, ◌/◌, ℤ, pos, true, false}
use Rattle.sect_dev.specs.Device.{Image, IsImageOf, LeavesOnly, MoreFaults}
use Rattle.sect_dev.specs.Moments.{IsOutcome}
use Rattle.sect_dev.specs.declared.device.SectorDev as device
use Rattle.dbm_model.specs.Calls.{Broken, Device}
use Rattle.dbm_model.specs.States.{Handle}
use Rattle.page_io.specs.Meaning.{ImageStandsFor}
use Rattle.page_io.specs.declared.store.PageStore as store
use Rattle.redo_area.specs.File.{settled}
use Rattle.redo_area.specs.Opening.{IsClosed}
use Rattle.redo_area.specs.declared.pager.Pager.{Pager}
use Rattle.page_cache.specs.declared.cached_pages.CachedPages.{CachedPages}
use Rattle.dbm_file.specs.Database.{store_of, page_state, IsAt}
use Rattle.dbm_file.specs.Opened.{device_below}
use Rattle.dbm_file.specs.declared.database.Database.{Database}
use Rattle.ndbm_calls.specs.Statuses.{refusal_of}

-- The database was closed with this status, and this is left of its device.
pub record Closes {D : Type 0} (bound : device.Ghosts D) {p : store.Ghosts (Pager D bound)}
    {s : store.Ghosts (CachedPages (Pager D bound) p)}
    (db : Database (CachedPages (Pager D bound) p) s) (left : D) (status : ℤ) : Type 0 where
  pub told : (status ≡ pos 0) ⊎ ((status ≡ refusal_of Broken) ⊎ (status ≡ refusal_of Device))
  pub broken : (status ≡ refusal_of Broken) ↔ ((page_state db).usable ≡ false)
  pub device : status ≡ refusal_of Device
      → MoreFaults (bound.faults (device_below db)) (bound.faults left)
  -- every image of every moment settles to what the database might have been left with
  pub any_moment : bound.honest (device_below db)
      → LeavesOnly bound.moment
      (IsOutcome bound.left_since (settled (bound.sectors (device_below db) / 4)))
      (device_below db) left (s.settles_to (store_of db))
  -- every image that is left now stands for the map
  pub stands : bound.honest left → (h : Handle) → IsAt db h → h.state.usable ≡ true
      → (image : Image) → IsImageOf (bound.candidate left) image
      → ImageStandsFor (settled (bound.sectors left / 4) image) h.state.map h.state.bounds
  -- where it was opened for writing, all is on the disk, and in its place but for what is in a log
  pub closed : bound.honest left → (page_state db).writable ≡ true → status ≡ pos 0
      → IsClosed (bound.sectors left / 4) (page_state db).end (bound.candidate left) (bound.seen left)
  pub honesty : bound.honest left ↔ bound.honest (device_below db)
