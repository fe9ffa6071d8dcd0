-- What reads leave of a device, and when one may have failed.
use Rattle.std.specs.Prelude.{◌≡◌, ◌↔◌, ◌≤◌}
use Rattle.sect_dev.specs.Reads.{OnlyReads}
use Rattle.sect_dev.specs.declared.device.SectorDev.{Ghosts}

-- any number of reads, on any device, and over an honest one nothing that a stop could leave
-- differs
pub record Looks {D : Type 0} (dev : Ghosts D) (old new : D) : Type 0 where
  pub only_reads : dev.honest old → OnlyReads dev old new
  pub still : (dev.moment new).at ≡ (dev.moment old).at
  pub honesty : dev.honest new ↔ dev.honest old
  pub later : dev.faults old ≤ dev.faults new
  pub size : dev.sectors new ≡ dev.sectors old
