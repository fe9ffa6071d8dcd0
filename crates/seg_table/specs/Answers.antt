-- Which fault a call answers, and when.
use Rattle.std.specs.Prelude.{◌≡◌, ◌⊎◌, ◌≤◌, ℕ, false, length, Result, IfErr, IsErrOf}
use Rattle.page_io.specs.Store.{StoreState}
use Rattle.page_io.specs.declared.store.PageFault.{PageFault}
use Rattle.page_io.specs.declared.store.PageFault.TheVariants.{Memory, Device, Broken, NoRoom, Damaged}
use Rattle.free_pages.specs.declared.free_state.FreeState.{FreeState}

pub record IsHeadAnswer {T : Type 0} (state : StoreState)
    (result : Result T PageFault) : Type 0 where
  pub broken : IsErrOf result Broken → state.usable ≡ false
  pub only : IfErr result (λ e. (e ≡ Broken) ⊎ ((e ≡ Damaged) ⊎ (e ≡ Device)))

-- `reserved` pages can be staged with no memory taken
pub record IsSetAnswer {T : Type 0} (reserved : ℕ) (state : StoreState) (free : FreeState)
    (result : Result T PageFault) : Type 0 where
  pub broken : IsErrOf result Broken → state.usable ≡ false
  pub memory : IsErrOf result Memory → reserved ≤ length state.staged
  pub no_room : IsErrOf result NoRoom → (free.head ≡ 0) × (state.capacity ≤ free.file_end)
  pub only : IfErr result (λ e.
      (e ≡ Broken) ⊎ ((e ≡ Memory) ⊎ ((e ≡ NoRoom) ⊎ ((e ≡ Damaged) ⊎ (e ≡ Device)))))
