-- What an opening finds of a log.
use Rattle.std.specs.Prelude.{◌≡◌, ◌⊎◌, ◌≤◌, ◌<◌, ℕ, ◌+◌, ◌*◌, false}
use Rattle.sect_dev.specs.Device.{Image}
use Rattle.page_io.specs.Store.{Pages}
use Rattle.commit_log.specs.Log.{Log, slot_of, log_by, has_disordered}

-- these are the pages of the older commit and the newer one, of which the newer has this end
pub record AreLogs (start end : ℕ) (older newer : Pages) (seen : Image) : Type 0 where
  pub old : Log
  pub new : Log
  pub slots : ((log_by start (slot_of seen (4 * start)) ≡ old)
      × (log_by start (slot_of seen (4 * start + 64)) ≡ new) × (old.number ≤ new.number))
      ⊎ ((log_by start (slot_of seen (4 * start)) ≡ new)
      × (log_by start (slot_of seen (4 * start + 64)) ≡ old) × (old.number < new.number))
  pub ordered : has_disordered seen start ≡ false
  pub some : 1 ≤ new.number
  pub older_is : old.pages ≡ older
  pub newer_is : new.pages ≡ newer
  pub end_is : new.end ≡ end
