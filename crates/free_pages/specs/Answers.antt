-- Which fault a call answers, and when.
use Rattle.std.specs.Prelude.{◌≡◌, ◌⊎◌, ◌↔◌, ◌≤◌, ℕ, false, length, Result, IfErr, IsErrOf}
use Rattle.page_io.specs.Store.{StoreState, has_page}
use Rattle.page_io.specs.declared.store.PageFault.{PageFault}
use Rattle.page_io.specs.declared.store.PageFault.TheVariants.{Memory, Device, Broken, NoRoom, Damaged}
use Rattle.free_pages.specs.FreeList.{HasEnds}
use Rattle.free_pages.specs.declared.free_state.FreeState.{FreeState}

pub record IsTakeAnswer {T : Type 0} (state : StoreState) (space : FreeState)
    (result : Result T PageFault) : Type 0 where
  pub no_room : IsErrOf result NoRoom
      ↔ ((space.head ≡ 0) × (space.count ≡ 0) × (1 ≤ space.file_end)
      × (state.capacity ≤ space.file_end))
  -- looked at before any read
  pub damaged : (HasEnds space → ⊥) ⊎ ((space.head ≡ 0) × (space.file_end ≡ 0))
      → IsErrOf result Damaged
  pub broken : IsErrOf result Broken → state.usable ≡ false
  pub only : IfErr result (λ e. (e ≡ NoRoom) ⊎ ((e ≡ Broken) ⊎ ((e ≡ Damaged) ⊎ (e ≡ Device))))

-- `reserved` pages can be staged with no memory taken
pub record IsGiveAnswer {T : Type 0} (reserved : ℕ) (state : StoreState) (space : FreeState) (n : ℕ)
    (result : Result T PageFault) : Type 0 where
  pub damaged : IsErrOf result Damaged ↔ (space.file_end ≤ space.count)
  pub broken : IsErrOf result Broken → state.usable ≡ false
  pub memory : IsErrOf result Memory
      → (has_page state.staged n ≡ false) × (reserved ≤ length state.staged)
  pub only : IfErr result (λ e. (e ≡ Damaged) ⊎ ((e ≡ Broken) ⊎ (e ≡ Memory)))
