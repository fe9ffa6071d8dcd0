-- Which fault a call on contents answers, and when.
use Rattle.std.specs.Prelude.{◌≡◌, ◌⊎◌, ◌+◌, ◌<◌, ℕ, false, length, Result, IfErr, IsErrOf}
use Rattle.page_io.specs.Store.{StoreState}
use Rattle.page_io.specs.declared.store.PageFault.{PageFault}
use Rattle.page_io.specs.declared.store.PageFault.TheVariants.{Memory, Device, Broken, NoRoom, Damaged}
use Rattle.free_pages.specs.declared.free_state.FreeState.{FreeState}

-- of a call that reads and takes no memory
pub record IsWalkAnswer {T : Type 0} (state : StoreState)
    (result : Result T PageFault) : Type 0 where
  pub broken : IsErrOf result Broken → state.usable ≡ false
  pub only : IfErr result (λ e. (e ≡ Broken) ⊎ ((e ≡ Damaged) ⊎ (e ≡ Device)))

-- of a call that reads into memory
pub record IsLoadAnswer {T : Type 0} (state : StoreState)
    (result : Result T PageFault) : Type 0 where
  pub broken : IsErrOf result Broken → state.usable ≡ false
  pub only : IfErr result (λ e. (e ≡ Memory) ⊎ ((e ≡ Broken) ⊎ ((e ≡ Damaged) ⊎ (e ≡ Device))))

-- of one that takes so many pages
pub record IsTakesAnswer {T : Type 0} (count : ℕ) (state : StoreState) (space : FreeState)
    (result : Result T PageFault) : Type 0 where
  pub no_room : IsErrOf result NoRoom → state.capacity < space.file_end + count
  pub broken : IsErrOf result Broken → state.usable ≡ false
  pub only : IfErr result (λ e. (e ≡ NoRoom) ⊎ ((e ≡ Broken) ⊎ ((e ≡ Damaged) ⊎ (e ≡ Device))))

-- of one that stages so many; `reserved` pages can be staged with no memory taken
pub record IsStagesAnswer {T : Type 0} (reserved count : ℕ) (state : StoreState)
    (result : Result T PageFault) : Type 0 where
  pub broken : IsErrOf result Broken → state.usable ≡ false
  pub memory : IsErrOf result Memory → reserved < length state.staged + count
  pub only : IfErr result (λ e. (e ≡ Broken) ⊎ (e ≡ Memory))

-- of one that reads and stages so many
pub record IsGivesAnswer {T : Type 0} (reserved count : ℕ) (state : StoreState)
    (result : Result T PageFault) : Type 0 where
  pub broken : IsErrOf result Broken → state.usable ≡ false
  pub memory : IsErrOf result Memory → reserved < length state.staged + count
  pub only : IfErr result (λ e. (e ≡ Broken) ⊎ ((e ≡ Memory) ⊎ ((e ≡ Damaged) ⊎ (e ≡ Device))))

-- of one that takes and stages so many
pub record IsPutsAnswer {T : Type 0} (reserved count : ℕ) (state : StoreState) (space : FreeState)
    (result : Result T PageFault) : Type 0 where
  pub no_room : IsErrOf result NoRoom → state.capacity < space.file_end + count
  pub broken : IsErrOf result Broken → state.usable ≡ false
  pub memory : IsErrOf result Memory → reserved < length state.staged + count
  pub only : IfErr result (λ e.
      (e ≡ NoRoom) ⊎ ((e ≡ Broken) ⊎ ((e ≡ Memory) ⊎ ((e ≡ Damaged) ⊎ (e ≡ Device)))))
