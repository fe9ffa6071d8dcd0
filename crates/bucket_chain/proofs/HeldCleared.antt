-- Contents that stand apart from a chain still do where it was emptied.
use Rattle.std.proofs.Common.{ℕ, List, [], ◌∷◌, ◌++◌, arith}
use Rattle.dbm_model.specs.Bounds.{Version}
use Rattle.page_model.specs.Pages.{Body}
use Rattle.page_model.specs.Chain.{Chain, Entry, numbers, pages_of, pages_in}
use Rattle.page_model.specs.Space.{Space, is_page}
use Rattle.free_pages.specs.declared.free_state.FreeState.{FreeState}
use Rattle.free_pages.specs.FreeList.{IsApart}
use Rattle.content_pages.proofs.PageCounts.{times_both}
use Rattle.bucket_chain.specs.Changes.{IsPlaced, IsCleared, AreHeld, store_in}
use Rattle.bucket_chain.proofs.ChainContents.{contents_kept}
use Rattle.bucket_chain.proofs.PutLemmas.{one_or_none}
use Rattle.content_pages.proofs.ContentGivings.{times_given}

pub held_cleared : (version : Version) (old new : ℕ → Body) (state state' : FreeState) (head n : ℕ)
    (chain : Chain) (s : Space) (entries : List Entry) → IsPlaced version old state head chain s
    → AreHeld version old (numbers chain) s entries
    → IsCleared version old new state' n (store_in (chain, s) [])
    → AreHeld version new (pages_in (store_in (chain, s) []).0) (store_in (chain, s) []).1 entries
held_cleared version old new state state' head n [] s entries placed held cleared =
    absurd placed.chain_is.is_chain
held_cleared version old new state state' head n (leaf ∷ rest) s entries placed held cleared =
    record {
      entered = held.entered;
      are_read = contents_kept old new entries
          (λ m stands. cleared.becomes.rewritten.others m (omega (
            arith,
            stands,
            one_or_none (is_page m s.end) _ (apart m),
            times_both m (pages_of entries) (leaf.number ∷ []),
          ))) held.are_read;
      apart = apart;
    }
  where
    apart : IsApart (pages_of entries ++ pages_in (store_in (leaf ∷ rest, s) []).0)
        (store_in (leaf ∷ rest, s) []).1
    apart m = omega (
      arith,
      held.apart m,
      times_both m (pages_of entries) (numbers (leaf ∷ rest)),
      times_both m (pages_of entries) (leaf.number ∷ []),
      times_both m (leaf.number ∷ []) (numbers rest),
      times_given m (numbers rest) s,
    )
