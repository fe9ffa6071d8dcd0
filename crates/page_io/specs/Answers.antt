-- Which fault a store answers, and when.
use Rattle.std.specs.Prelude.{◌≡◌, ◌⊎◌, ◌↔◌, ◌<◌, ◌≤◌, ◌+◌, ℕ, true, false, max, length, Result, IfErr, IsErrOf}
use Rattle.sect_dev.specs.Device.{MoreFaults}
use Rattle.page_io.specs.Store.{StoreState, IsKnown, has_page}
use Rattle.page_io.specs.declared.store.PageFault.{PageFault}
use Rattle.page_io.specs.declared.store.PageFault.TheVariants.{Memory, Device, Broken, ReadOnly, NoRoom, Damaged}

-- Device comes only with a fault of the device below
pub record HasDeviceCause {T : Type 0} (before now : ℕ) (result : Result T PageFault) : Type 0 where
  pub later : before ≤ now
  pub fault : IsErrOf result Device → MoreFaults before now

pub record IsReadAnswer {T : Type 0} (state : StoreState) (n : ℕ)
    (result : Result T PageFault) : Type 0 where
  pub broken : IsErrOf result Broken ↔ (state.usable ≡ false)
  pub damaged : IsErrOf result Damaged ↔ ((state.usable ≡ true) × (IsKnown state n → ⊥))
  pub only : IfErr result (λ e. (e ≡ Broken) ⊎ ((e ≡ Damaged) ⊎ (e ≡ Device)))

-- `reserved` pages can be staged with no memory taken
pub record IsStageAnswer {T : Type 0} (reserved : ℕ) (state : StoreState) (n : ℕ)
    (result : Result T PageFault) : Type 0 where
  pub broken : IsErrOf result Broken ↔ (state.usable ≡ false)
  pub memory : IsErrOf result Memory
      → (has_page state.staged n ≡ false) × (reserved ≤ length state.staged)
  pub only : IfErr result (λ e. (e ≡ Broken) ⊎ (e ≡ Memory))

-- the staged pages do not fit behind the old end and the new
abbrev pub LacksPages : StoreState → ℕ → Type 0
LacksPages state new_end = state.capacity < max state.end new_end + length state.staged

-- the call makes no device call
abbrev pub IsRefusal : PageFault → Type 0
IsRefusal e = (e ≡ Broken) ⊎ ((e ≡ ReadOnly) ⊎ (e ≡ NoRoom))

-- Broken comes before ReadOnly, and that before NoRoom
pub record IsCommitAnswer {T : Type 0} (state : StoreState) (new_end : ℕ)
    (result : Result T PageFault) : Type 0 where
  pub broken : IsErrOf result Broken ↔ (state.usable ≡ false)
  pub read_only : IsErrOf result ReadOnly ↔ ((state.usable ≡ true) × (state.writable ≡ false))
  pub no_room : IsErrOf result NoRoom
      ↔ ((state.usable ≡ true) × (state.writable ≡ true) × LacksPages state new_end)
  pub only : IfErr result (λ e. IsRefusal e ⊎ (e ≡ Device))

-- a store opened for reading alone has no page to put in its place, and answers Ok
pub record IsSettleAnswer {T : Type 0} (state : StoreState)
    (result : Result T PageFault) : Type 0 where
  pub broken : IsErrOf result Broken ↔ (state.usable ≡ false)
  pub device : IsErrOf result Device → state.writable ≡ true
  pub only : IfErr result (λ e. (e ≡ Broken) ⊎ (e ≡ Device))
