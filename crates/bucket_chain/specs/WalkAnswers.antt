-- Which fault a walk answers, and when.
use Rattle.std.specs.Prelude.{◌≡◌, ◌⊎◌, false, Result, IfErr, IsErrOf}
use Rattle.page_io.specs.Store.{StoreState}
use Rattle.page_io.specs.declared.store.PageFault.{PageFault}
use Rattle.page_io.specs.declared.store.PageFault.TheVariants.{Memory, Device, Broken, Damaged}

-- of a call that reads and takes no memory
pub record IsWalkAnswer {T : Type 0} (state : StoreState)
    (result : Result T PageFault) : Type 0 where
  pub broken : IsErrOf result Broken → state.usable ≡ false
  pub only : IfErr result (λ e. (e ≡ Broken) ⊎ ((e ≡ Damaged) ⊎ (e ≡ Device)))

-- of a call that reads into memory
pub record IsLoadAnswer {T : Type 0} (state : StoreState)
    (result : Result T PageFault) : Type 0 where
  pub broken : IsErrOf result Broken → state.usable ≡ false
  pub only : IfErr result (λ e. (e ≡ Memory) ⊎ ((e ≡ Broken) ⊎ ((e ≡ Damaged) ⊎ (e ≡ Device))))
