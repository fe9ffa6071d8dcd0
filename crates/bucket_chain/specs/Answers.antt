-- Which fault a change of a chain answers, and when.
use Rattle.std.specs.Prelude.{◌≡◌, ◌⊎◌, ◌+◌, ◌<◌, ◌≤◌, ℕ, false, length, Result, IfErr, IsErrOf}
use Rattle.page_io.specs.Store.{StoreState}
use Rattle.page_io.specs.declared.store.PageFault.{PageFault}
use Rattle.page_io.specs.declared.store.PageFault.TheVariants.{Memory, Device, Broken, NoRoom, Damaged}
use Rattle.free_pages.specs.declared.free_state.FreeState.{FreeState}

-- of a call that takes at most so many pages, and stages these and one more; `reserved` pages can
-- be staged with no memory taken
pub record IsPutAnswer {T : Type 0} (reserved pages : ℕ) (state : StoreState) (space : FreeState)
    (result : Result T PageFault) : Type 0 where
  pub broken : IsErrOf result Broken → state.usable ≡ false
  pub memory : IsErrOf result Memory → reserved ≤ length state.staged + pages
  pub no_room : IsErrOf result NoRoom → (state.capacity < space.file_end + pages)
      × (pages ≡ 1 → space.head ≡ 0)
  pub only : IfErr result (λ e.
      (e ≡ Broken) ⊎ ((e ≡ Memory) ⊎ ((e ≡ NoRoom) ⊎ ((e ≡ Damaged) ⊎ (e ≡ Device)))))

-- of one that takes no page, and stages at most one more than so many
pub record IsRemoveAnswer {T : Type 0} (reserved pages : ℕ) (state : StoreState)
    (result : Result T PageFault) : Type 0 where
  pub broken : IsErrOf result Broken → state.usable ≡ false
  pub memory : IsErrOf result Memory → reserved ≤ length state.staged + pages
  pub only : IfErr result (λ e. (e ≡ Broken) ⊎ ((e ≡ Memory) ⊎ ((e ≡ Damaged) ⊎ (e ≡ Device))))

-- of one that stages as many as it must
pub record IsStoreAnswer {T : Type 0} (state : StoreState)
    (result : Result T PageFault) : Type 0 where
  pub broken : IsErrOf result Broken → state.usable ≡ false
  pub only : IfErr result (λ e.
      (e ≡ Broken) ⊎ ((e ≡ Memory) ⊎ ((e ≡ NoRoom) ⊎ ((e ≡ Damaged) ⊎ (e ≡ Device)))))
