-- What a store says before and after reads.
use Rattle.std.proofs.Common.{◌≡◌, ℕ, sym, ap, subst}
use Rattle.page_model.specs.Pages.{Body}
use Rattle.page_io.specs.Store.{StoreState}
use Rattle.page_io.specs.Views.{body_at, ReadsOnly}
use Rattle.page_io.specs.declared.store.PageStore.{Ghosts}
use Rattle.page_io.proofs.Views.{same_said}

module _ {S : Type 0} (s : Ghosts S) (old mid : S) (reads : ReadsOnly s old mid)
    (honest : s.honest old) where
  same_end : (s.state mid).end ≡ (s.state old).end
  same_end = ap (λ (state : StoreState). state.end) reads.same

  -- it is said of the pages and of the end of the file
  pub from_mid : (P : (ℕ → Body) → ℕ → Type 0) → P (body_at s mid) (s.state mid).end
      → P (body_at s old) (s.state old).end
  from_mid P is = subst (λ (at : ℕ → Body). P at (s.state old).end)
      (same_said s old mid reads honest) (subst (P (body_at s mid)) same_end is)

  pub to_mid : (P : (ℕ → Body) → ℕ → Type 0) → P (body_at s old) (s.state old).end
      → P (body_at s mid) (s.state mid).end
  to_mid P is = subst (λ (at : ℕ → Body). P at (s.state mid).end)
      (sym (same_said s old mid reads honest)) (subst (P (body_at s old)) (sym same_end) is)
