-- Why not all changed pages were staged.
use Rattle.std.specs.Prelude.{◌≡◌, ◌⊎◌, ◌≤◌, ℕ, false, length, Result, IfErr, IsErrOf}
use Rattle.page_io.specs.Store.{StoreState}
use Rattle.page_io.specs.declared.store.PageFault.{PageFault}
use Rattle.page_io.specs.declared.store.PageFault.TheVariants.{Memory, Broken}

-- Broken comes only of a broken store, Memory only once as many pages are staged as take none, and
-- nothing else comes
pub record IsStagingAnswer {T : Type 0} (reserved : ℕ) (old new : StoreState)
    (result : Result T PageFault) : Type 0 where
  pub broken : IsErrOf result Broken → old.usable ≡ false
  pub memory : IsErrOf result Memory → reserved ≤ length new.staged
  pub only : IfErr result (λ e. (e ≡ Broken) ⊎ (e ≡ Memory))
