-- What a call that changes no committed page keeps.
use Rattle.std.specs.Prelude.{◌≡◌, ℕ}
use Rattle.sect_dev.specs.Device.{Moment, LeavesOnly}
use Rattle.page_io.specs.Store.{Pages, Settled}

-- The committed pages stay, nothing was written and nothing synced, and at every moment a stop leaves
-- what one could leave before.
pub record KeepsPages {S : Type 0} (pages : S → Pages) (moment : S → Moment)
    (settled_since : S → ℕ → Settled → Type 0) (settles_to : S → Settled → Type 0)
    (old new : S) : Type 0 where
  pub committed : pages new ≡ pages old
  pub still : (moment new).at ≡ (moment old).at
  pub any_moment : LeavesOnly moment settled_since old new (settles_to old)
