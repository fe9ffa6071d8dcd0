-- Upgrades to version 2, told from the handle and the reply, and examples.
use Rattle.std.specs.Prelude.{◌≡◌, ◌≢◌, ◌⊎◌, ◌*◌, ◌<◌, ℕ}
use Rattle.dbm_model.specs.Bounds.{V1, V2, upgraded, in_v1}
use Rattle.dbm_model.specs.Calls.{Upgrade, Reply, Upgraded, Refused, Memory, NoRoom, TooSmall}
use Rattle.dbm_model.specs.Sizes.{home}
use Rattle.dbm_model.specs.States.{Handle, first_fault}
use Rattle.dbm_model.specs.Steps.{Step}
use Rattle.dbm_model.specs.Refusals.{MayChange}
use Rattle.dbm_model.specs.Room.{HasRoom}
use Rattle.dbm_model.specs.Examples.{new_database}

-- one of version 2 is told so, and nothing changes; no fault of the device hinders that
abbrev pub SecondIsTold : Type 0
SecondIsTold = (before after : Handle) (reply : Reply) → Step before Upgrade reply after
    → MayChange before.state → before.state.bounds.version ≡ V2
    → (reply ≡ Upgraded) × (after.state ≡ before.state)

-- one on a device without the room that version 2 asks for is refused, and the map and the bounds
-- stay
abbrev pub SmallIsRefused : Type 0
SmallIsRefused = (before after : Handle) (reply : Reply) → Step before Upgrade reply after
    → MayChange before.state → before.state.bounds.version ≡ V1
    → before.capacity < 2 * home (upgraded before.state.bounds)
    → (reply ≡ Refused TooSmall) × (after.state.map ≡ before.state.map)
    × (after.state.bounds ≡ before.state.bounds)
    × (after.state.error ≡ first_fault before.state.error TooSmall)

-- whatever is answered, the map, the limit and the pass stay
abbrev pub UpgradeKeeps : Type 0
UpgradeKeeps = (before after : Handle) (reply : Reply) → Step before Upgrade reply after
    → (after.state.map ≡ before.state.map)
    × (after.state.bounds.limit ≡ before.state.bounds.limit)
    × (after.state.pass ≡ before.state.pass)

-- one that was acknowledged leaves version 2, and the room that this asks for
abbrev pub UpgradeRaises : Type 0
UpgradeRaises = (before after : Handle) → Step before Upgrade Upgraded after
    → (after.state.bounds ≡ upgraded before.state.bounds)
    × ((before.state.bounds.version ≡ V2) ⊎ HasRoom after)

-- none is refused for want of memory or of room
abbrev pub UpgradeIsNeverShort : Type 0
UpgradeIsNeverShort = (before after : Handle) (reply : Reply) → Step before Upgrade reply after
    → (reply ≢ Refused Memory) × (reply ≢ Refused NoRoom)

-- a new database of version 1 with room for so many pages
abbrev pub start : ℕ → Handle
start capacity = record (new_database (in_v1 100)) { capacity = capacity }

pub record IsUpgrade (capacity : ℕ) (reply : Reply) : Type 0 where
  pub after : Handle
  pub step : Step (start capacity) Upgrade reply after

-- in 928 sectors, 232 pages, a limit of 100 stays in version 1, and in 27,328, 6,832 pages, it goes
-- to version 2
pub record UpgradeExamples : Type 0 where
  pub small : IsUpgrade 232 (Refused TooSmall)
  pub small_alone : IsUpgrade 6831 Upgraded → ⊥
  pub done : IsUpgrade 6832 Upgraded
