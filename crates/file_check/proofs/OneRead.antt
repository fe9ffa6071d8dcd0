-- What a read of one page tells behind other reads.
use Rattle.std.proofs.Common.{◌≡◌, ◌↔◌, ℕ, ◌+◌, ◌≤◌, List, length, sym, ap, ◌∙◌}
use Rattle.page_model.specs.Pages.{Body, Other}
use Rattle.page_model.specs.Reading.{body_of}
use Rattle.page_io.specs.Kept.{KeepsPages}
use Rattle.page_io.specs.Store.{Settled, IsKnown}
use Rattle.page_io.specs.Views.{visible_page, body_at, ReadsOnly}
use Rattle.page_io.specs.declared.store.PageStore.{Ghosts}
use Rattle.page_io.proofs.Views.{after_read, reads_then, same_said, unknown_said}
use Rattle.bucket_chain.proofs.ReadPages.{still_honest}

module _ {S : Type 0} (s : Ghosts S) (old mid : S) (reads : ReadsOnly s old mid)
    (honest : s.honest old) where
  -- read as it was before
  pub said_before : (n : ℕ) (bytes : List ℕ) (body : Body)
      → (s.honest mid → bytes ≡ visible_page s mid n) → body_of n bytes ≡ body
      → body_at s old n ≡ body
  said_before n bytes body found says =
      sym (ap (λ (at : ℕ → Body). at n) (same_said s old mid reads honest))
      ∙ sym (ap (body_of n) (found (still_honest s old mid reads honest))) ∙ says

  pub said_after : (n : ℕ) (bytes : List ℕ) (body : Body)
      → (s.honest mid → bytes ≡ visible_page s mid n) → body_at s old n ≡ body
      → body_of n bytes ≡ body
  said_after n bytes body found says =
      ap (body_of n) (found (still_honest s old mid reads honest))
      ∙ ap (λ (at : ℕ → Body). at n) (same_said s old mid reads honest) ∙ says

  -- a page that says something is known; `ends` is the store's law
  pub must_be_known : (n : ℕ) (body : Body)
      → length (s.committed mid) + 1 ≡ (s.state mid).end → 1 ≤ n
      → (IsKnown (s.state mid) n → ⊥) → body_at s old n ≡ body → body ≡ Other
  must_be_known n body ends some unknown says =
      sym says ∙ sym (ap (λ (at : ℕ → Body). at n) (same_said s old mid reads honest))
      ∙ unknown_said s mid n ends some unknown

-- two reads, of which the second is of one page
pub read_then : {S : Type 0} (s : Ghosts S) (old mid new : S)
    → ((t : ℕ) (y : Settled) → s.honest mid → t ≤ (s.moment mid).at → s.settles_to mid y
    → s.settled_since mid t y)
    → ((t : ℕ) (y : Settled) → s.honest new → t ≤ (s.moment new).at → s.settles_to new y
    → s.settled_since new t y) → ReadsOnly s old mid
    → s.state new ≡ s.state mid → (s.honest new ↔ s.honest mid) → s.faults mid ≤ s.faults new
    → (s.honest mid → KeepsPages s.committed s.moment s.settled_since s.settles_to mid new)
    → ReadsOnly s old new
read_then s old mid new counts counts_new reads same honesty later kept =
    reads_then s old mid new counts reads (after_read s mid new counts_new same honesty later kept)
