-- Overflow pages that are given to the free list, one after the other.
use Rattle.std.specs.Prelude.{◌≡◌, ℕ, ◌≤◌}
use Rattle.std.specs.List.{AllByRecursion}
use Rattle.page_model.specs.Pages.{Body}
use Rattle.free_pages.specs.declared.free_state.FreeState.{FreeState}
use Rattle.free_pages.specs.Giving.{AreGiven}
use Rattle.bucket_chain.specs.Chains.{ReadChain, number_or, AreLinked}
use Rattle.bucket_chain.specs.AnyFile.{numbers_read}

-- the overflow pages from page `first` on, the last of which names none, were read and given
pub record AreOverflowGiven (old new : ℕ → Body) (before after : FreeState)
    (first : ℕ) : Type 0 where
  pub pages : ReadChain
  pub linked : AreLinked old pages 0
  pub first_is : first ≡ number_or pages 0
  pub numbered : AllByRecursion (λ leaf. 1 ≤ leaf.number) pages
  pub given : AreGiven old new before after (numbers_read pages)
