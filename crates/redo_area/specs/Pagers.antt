-- The device of a store.
use Rattle.std.specs.Prelude.{Result, Ok, Err}
use Rattle.sect_dev.specs.declared.device.SectorDev.{Ghosts}
use Rattle.redo_area.specs.declared.header.CommitKind.{CommitKind}
use Rattle.redo_area.specs.declared.open_fault.OpenFault.{OpenFault}
use Rattle.redo_area.specs.declared.pager.Pager.{Pager}

-- the device below a store
abbrev pub device_of : {D : Type 0} {bound : Ghosts D} → Pager D bound → D
device_of pager = pager.dev

-- how the file's commits are made
abbrev pub kind_at : {D : Type 0} {bound : Ghosts D} → Pager D bound → CommitKind
kind_at pager = pager.area.kind

-- the device that opening was given, whatever it answers
abbrev pub device_after : {D : Type 0} {bound : Ghosts D}
    → Result (Pager D bound) (D × OpenFault) → D
device_after (Ok pager) = pager.dev
device_after (Err e) = e.0
