-- What a device that counts its calls shows.
use Rattle.std.specs.Prelude.{ℕ, Bool}
use Rattle.sect_dev.specs.declared.device.SectorDev.{Ghosts}
use Rattle.rehearsal.specs.declared.counting.Counting.{Counting}

-- the device that they are passed on to
abbrev pub device_in : {D : Type 0} {d : Ghosts D} → Counting D d → D
device_in c = c.inner

abbrev pub calls_of : {D : Type 0} {d : Ghosts D} → Counting D d → ℕ
calls_of c = c.calls

abbrev pub has_failed : {D : Type 0} {d : Ghosts D} → Counting D d → Bool
has_failed c = c.failed
