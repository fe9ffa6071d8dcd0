-- What a file stands for that was opened.
use Rattle.std.specs.Prelude.{◌≡◌, ◌≤◌, ◌↔◌, ℕ, Bool, true, if◌then◌else◌, Result, Ok, Err, IfErr}
use Rattle.std.specs.FinMap.{empty}
use Rattle.file_opening.specs.Opening.{bounds_of}
use Rattle.dbm_model.specs.Bounds.{Bounds}
use Rattle.sect_dev.specs.Device.{MoreFaults}
use Rattle.sect_dev.specs.declared.device.SectorDev as device
use Rattle.page_io.specs.Store.{Settled}
use Rattle.page_io.specs.Meaning.{ImageStandsFor}
use Rattle.page_io.specs.declared.store.PageStore.{Ghosts}
use Rattle.redo_area.specs.Pagers.{device_of}
use Rattle.redo_area.specs.declared.pager.Pager.{Pager}
use Rattle.seg_table.specs.MetaPages.{model_meta}
use Rattle.dbm_model.specs.Pairs.{Contents}
use Rattle.page_io.specs.Committing.{Holds}
use Rattle.file_opening.specs.declared.open_how.OpenHow.{OpenHow}
use Rattle.dbm_fault.specs.declared.fault.Fault.{Fault}
use Rattle.dbm_fault.specs.declared.fault.Fault.TheVariants.{Device}
use Rattle.file_opening.specs.declared.file.OpenFile.{OpenFile}

-- the device that an opening was given, whatever it answers
abbrev pub device_left : {D : Type 0} {bound : device.Ghosts D} {s : Ghosts (Pager D bound)}
    → Result (OpenFile (Pager D bound) s) (D × Fault) → D
device_left (Ok file) = device_of file.store
device_left (Err e) = e.0

-- An opening keeps the device's honesty and loses none of its faults, of which Device is one more.
pub record IsOpeningCall {D : Type 0} (dev : device.Ghosts D) {s : Ghosts (Pager D dev)} (old : D)
    (result : Result (OpenFile (Pager D dev) s) (D × Fault)) : Type 0 where
  pub honesty : dev.honest (device_left result) ↔ dev.honest old
  pub later : dev.faults old ≤ dev.faults (device_left result)
  pub fault : IfErr result (λ e. e.1 ≡ Device → MoreFaults (dev.faults old) (dev.faults e.0))

-- a file as an opening leaves it
pub record IsJustOpened {S : Type 0} {s : Ghosts S} (for_writing : Bool) (pages : ℕ)
    (file : OpenFile S s) : Type 0 where
  pub usable : (s.state file.store).usable ≡ true
  pub writable : (s.state file.store).writable ≡ for_writing
  pub capacity : (s.state file.store).capacity ≡ pages

-- its pages stand for this map and these bounds, and so does every image that a stop may leave now
pub record StandsAs {S : Type 0} {s : Ghosts S} (file : OpenFile S s) (map : Contents)
    (bounds : Bounds) : Type 0 where
  pub holds : (s.state file.store).usable ≡ true → Holds s file.store (model_meta file.meta) map
  pub rests : (s.state file.store).usable ≡ true → (settled : Settled)
      → s.settles_to file.store settled → ImageStandsFor settled map (model_meta file.meta).bounds
  pub bounds_are : (model_meta file.meta).bounds ≡ bounds

-- it stands for the map, with these bounds, or where it was to be emptied for none, with those that
-- the opening asks for
abbrev pub OpensAs : {S : Type 0} {s : Ghosts S} → OpenHow → Contents → Bounds → OpenFile S s
    → Type 0
OpensAs how map bounds file = StandsAs file (if how.truncate then empty else map)
    (if how.truncate then bounds_of how else bounds)
