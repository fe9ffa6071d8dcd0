-- What reads alone leave of a device.
use Rattle.std.specs.Prelude.{◌≡◌}
use Rattle.sect_dev.specs.Device.{IsImageOf, NoNewCandidate, LeavesOnly}
use Rattle.sect_dev.specs.declared.device.SectorDev.{Ghosts}

-- Nothing was written and nothing was synced, which reads alone do not count as moments: a read gives
-- what it gave before, and a stop leaves what it could leave before, no more and no less.
pub record OnlyReads {D : Type 0} (dev : Ghosts D) (old new : D) : Type 0 where
  pub seen : dev.seen new ≡ dev.seen old
  pub no_new : NoNewCandidate (dev.candidate old) (dev.candidate new)
  pub no_lost : NoNewCandidate (dev.candidate new) (dev.candidate old)
  pub still : (dev.moment new).at ≡ (dev.moment old).at
  pub any_moment : LeavesOnly dev.moment dev.left_since old new (IsImageOf (dev.candidate old))
