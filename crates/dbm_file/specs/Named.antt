-- A database that was opened by the name of its file.
use Rattle.std.specs.Prelude.{◌≡◌, ◌⊎◌, ◌/◌, false, Some}
use Rattle.dbm_model.specs.Bounds.{Bounds}
use Rattle.sect_dev.specs.Device.{IsStable, LeavesOnly}
use Rattle.sect_dev.specs.Moments.{IsOutcome}
use Rattle.sect_dev.specs.declared.device.SectorDev as device
use Rattle.dbm_model.specs.Pairs.{Contents}
use Rattle.page_io.specs.declared.store.PageStore as store
use Rattle.redo_area.specs.File.{settled}
use Rattle.redo_area.specs.declared.pager.Pager.{Pager}
use Rattle.page_cache.specs.declared.cached_pages.CachedPages.{CachedPages}
use Rattle.dbm_file.specs.Database.{meta_kept}
use Rattle.file_opening.specs.Opening.{writes, early_fault, IsRefusedOpening, AllStand, KeepsMeta, IsOpened, MayRemain}
use Rattle.dbm_file.specs.Opened.{device_below, IsOpenedAt}
use Rattle.file_opening.specs.declared.open_how.OpenHow.{OpenHow}
use Rattle.dbm_fault.specs.declared.fault.Fault.{Fault}
use Rattle.dbm_file.specs.declared.database.Database.{Database}

-- As the file was at first: where each image of it was blank or stood for a map, the database holds
-- one of these maps, or is new and empty; it keeps the meta page of a file that it was, or that of
-- an empty database; and every image of every moment since settles as one did, or stands for the
-- empty database that was asked for.
pub record OpensFile {D : Type 0} {bound : device.Ghosts D} {p : store.Ghosts (Pager D bound)}
    {s : store.Ghosts (CachedPages (Pager D bound) p)} (how : OpenHow)
    (db : Database (CachedPages (Pager D bound) p) s) : Type 0 where
  pub first : D
  pub begins : (bound.moment first).at ≡ 0
  pub size : bound.sectors first ≡ 273001992
  pub stands : bound.honest first
      → (writes how.access ≡ false → IsStable (bound.candidate first) (bound.seen first))
      → AllStand (bound.sectors first / 4) (bound.candidate first)
      → (map : Contents) × (bounds : Bounds) × IsOpenedAt (writes how.access) db map bounds
      × IsOpened how (bound.sectors first) (bound.candidate first) map bounds
  pub opened : bound.honest first
      → KeepsMeta how (bound.sectors first) (bound.candidate first) (meta_kept db)
  pub any_moment : bound.honest first
      → LeavesOnly bound.moment (IsOutcome bound.left_since (settled (bound.sectors first / 4)))
      first (device_below db) (MayRemain how (bound.sectors first) (bound.candidate first))

-- As the file was at first, an opening of it is refused by this fault, and this is left of it.
pub record RefusesFile {D : Type 0} (bound : device.Ghosts D) (how : OpenHow)
    (fault : Fault) : Type 0 where
  pub first : D
  pub begins : (bound.moment first).at ≡ 0
  pub size : bound.sectors first ≡ 273001992
  pub left : D
  pub refused : bound.honest first
      → (early_fault how 273001992 ≡ Some fault)
      ⊎ IsRefusedOpening how 273001992 (bound.candidate first) (bound.candidate left) fault
