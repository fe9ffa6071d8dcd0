-- Runs of calls of a store, for its callers.
use Rattle.std.proofs.Common.{◌≡◌, ◌≤◌, ℕ, inl, inr, ⊎_elim, ◌∙◌, ap}
use Rattle.sect_dev.specs.Device.{Moment, LeavesOnly}
use Rattle.sect_dev.specs.Moments.{followed_by, weaker}
use Rattle.page_io.specs.Store.{Pages, Settled, file_of, IsEither}
use Rattle.page_io.specs.Kept.{KeepsPages}

module _ {S : Type 0} (committed : S → Pages) (moment : S → Moment)
    (settled_since : S → ℕ → Settled → Type 0) (settles_to : S → Settled → Type 0) where
  -- Two calls that keep the pages keep them together. `counts` is the store's law `counts_now`.
  pub kept_twice : (old mid new : S)
      → ((t : ℕ) (y : Settled) → t ≤ (moment mid).at → settles_to mid y → settled_since mid t y)
      → KeepsPages committed moment settled_since settles_to old mid
      → KeepsPages committed moment settled_since settles_to mid new
      → KeepsPages committed moment settled_since settles_to old new
  kept_twice old mid new counts first second = record {
    committed = second.committed ∙ first.committed;
    still = second.still ∙ first.still;
    any_moment = followed_by moment settled_since old mid new (settles_to old) (settles_to mid)
        first.any_moment second.any_moment
        (λ y is. first.any_moment.each y (counts (moment old).at y first.any_moment.later is));
  }

  -- Where only the committed pages may be left, such calls leave those. `only` is the law
  -- `only_committed`.
  pub kept_either : (old new : S) (pages : Pages)
      → ((y : Settled) → settles_to old y → y ≡ file_of (committed old))
      → KeepsPages committed moment settled_since settles_to old new
      → LeavesOnly moment settled_since old new (IsEither (committed old) pages)
  kept_either old new pages only kept =
      weaker moment settled_since old new (IsEither (committed old) pages) (settles_to old)
      kept.any_moment (λ y is. inl (only y is))

  -- A commit after such calls leaves the pages from before them or the new.
  pub kept_then_either : (old mid new : S) (pages : Pages)
      → ((y : Settled) → settles_to old y → y ≡ file_of (committed old))
      → KeepsPages committed moment settled_since settles_to old mid
      → LeavesOnly moment settled_since mid new (IsEither (committed mid) pages)
      → LeavesOnly moment settled_since old new (IsEither (committed old) pages)
  kept_then_either old mid new pages only kept run =
      followed_by moment settled_since old mid new (IsEither (committed old) pages)
      (IsEither (committed mid) pages) (kept_either old mid pages only kept) run
      (λ y either. ⊎_elim (λ is. inl (is ∙ ap file_of kept.committed)) (λ is. inr is) either)
