-- A chain of which a key was taken out, with the pages that became free.
use Rattle.std.proofs.Common.{◌≡◌, ℕ, ◌+◌, ◌≤◌, ◌==◌, not, cond, [], filter, flat_map, sym, ap, ◌∙◌, subst, arith}
use Rattle.std.specs.List.{AllByRecursion}
use Rattle.dbm_model.specs.Bounds.{Version}
use Rattle.dbm_model.specs.Pairs.{Key}
use Rattle.page_model.specs.Pages.{Body, NumberedBody}
use Rattle.page_model.specs.Chain.{Chain, numbers, entries_in, pages_of, pages_in, is_at, remove, emptied, freed}
use Rattle.page_model.specs.Space.{Space, is_page, times_of}
use Rattle.page_model.specs.PageBodies.{leaf_bodies, entry_bodies, chain_bodies, free_bodies, AreRead}
use Rattle.page_model.proofs.Chains.{AllByRecursion-append, AllByRecursion-right, AllByRecursion-filter, entries_in-remove, sum_by-remove, sum_by-remove_pages}
use Rattle.free_pages.specs.declared.free_state.FreeState.{FreeState}
use Rattle.free_pages.specs.FreeList.{IsFreeList, IsApart}
use Rattle.free_pages.specs.Giving.{AreGiven}
use Rattle.content_pages.proofs.PageCounts.{times_both}
use Rattle.bucket_chain.specs.Changes.{IsPlaced, BecomesPlaced, remove_from}
use Rattle.bucket_chain.proofs.ChainContents.{contents_each, contents_all, contents_kept}
use Rattle.bucket_chain.proofs.PutLemmas.{one_or_none}
use Rattle.bucket_chain.proofs.Rewriting.{AreSaid, leaves_read, free_kept, said_kept}
use Rattle.content_pages.proofs.ContentGivings.{times_given}

-- nothing is taken out
pub unchanged : (version : Version) (at at' : ℕ → Body) (state : FreeState) (head : ℕ)
    (chain : Chain) (s : Space) (key : Key) → at' ≡ at → IsPlaced version at state head chain s
    → remove key chain ≡ chain → freed key chain ≡ []
    → BecomesPlaced at at' state (remove_from (chain, s) key)
unchanged version at at' state head chain s key same placed left gone = rw (left, gone) (record {
  rewritten = record {
    chain_read = subst (λ (a : ℕ → Body). AreRead a (chain_bodies chain)) (sym same)
        placed.chain_is.are_read;
    free_read = subst (λ (a : ℕ → Body). AreRead a (free_bodies s.free)) (sym same)
        placed.free_is.are_read;
    others = λ n none. ap (λ (a : ℕ → Body). a n) same;
  };
  kept = placed.free_is.kept;
})

-- one page of the chain is rewritten, and then what becomes free is given
module _ (version : Version) (at mid : ℕ → Body) (state : FreeState) (head : ℕ) (chain : Chain)
    (s : Space) (key : Key) (placed : IsPlaced version at state head chain s) (k : ℕ)
    (stands : 1 ≤ times_of k (numbers chain))
    (others : (m : ℕ) → (m ≡ k → ⊥) → mid m ≡ at m) where
  -- where page m stands
  counts : (m : ℕ) → times_of m (pages_in (remove key chain)) + times_of m (freed key chain)
      ≡ times_of m (pages_in chain)
  counts m = sum_by-remove_pages (λ (n : ℕ). cond (n == m) 1 0) key chain

  once : (m : ℕ) → times_of m (pages_in chain) + times_of m s.free ≤ 1
  once m = one_or_none (is_page m s.end) _ (placed.apart m)

  in_chain : (m : ℕ) → times_of m (pages_in chain) ≡ times_of m (numbers chain)
      + times_of m (pages_of (entries_in chain))
  in_chain m = times_both m (numbers chain) (pages_of (entries_in chain))

  left_in : (m : ℕ) → times_of m (pages_in (remove key chain))
      ≡ times_of m (numbers (remove key chain)) + times_of m (pages_of (entries_in
      (remove key chain)))
  left_in m = times_both m (numbers (remove key chain)) (pages_of (entries_in (remove key chain)))

  -- a page that doesn't stand among the chain's isn't the one that was rewritten
  same_page : (m : ℕ) → times_of m (numbers chain) ≡ 0 → mid m ≡ at m
  same_page m none = others m (λ same. omega (
    arith,
    none,
    subst (λ (n : ℕ). 1 ≤ times_of n (numbers chain)) (sym same) stands,
  ))

  pub freed_apart : IsApart (freed key chain) s
  freed_apart m = omega (arith, placed.apart m, counts m)

  -- the free list is what it was
  pub free_mid : IsFreeList mid state s
  free_mid = record {
    kept = placed.free_is.kept;
    are_read = free_kept at mid s.free (λ m is. same_page m (omega
        (arith, is, once m, in_chain m)))
        placed.free_is.are_read;
    some = placed.free_is.some;
  }

  -- so are the contents
  pub content_same : (m : ℕ) → 1 ≤ times_of m (pages_of (entries_in chain)) → mid m ≡ at m
  content_same m is = same_page m (omega (arith, is, once m, in_chain m))

  -- and the chain is as the pages say it in between
  pub removed : (new : ℕ → Body) (state' : FreeState) → AreSaid mid 3 (remove key chain) 0
      → AreGiven mid new state state' (freed key chain)
      → BecomesPlaced at new state' (remove_from (chain, s) key)
  removed new state' said given =
      let list = given.list s free_mid freed_apart in
      let contents = contents_each at (entries_in chain)
      (AllByRecursion-right (λ (b : NumberedBody). at b.number ≡ b.body) (leaf_bodies chain)
      (flat_map entry_bodies (entries_in chain)) placed.chain_is.are_read) in
      let left : AllByRecursion (λ e. AreRead at (entry_bodies e)) (entries_in
      (remove key chain)) =
      subst (AllByRecursion (λ e. AreRead at (entry_bodies e))) (sym (entries_in-remove key chain))
      (AllByRecursion-filter (λ e. AreRead at (entry_bodies e)) (λ e. not (is_at key e))
      (entries_in chain) contents) in
      record {
        rewritten = record {
          chain_read = AllByRecursion-append (λ (b : NumberedBody). new b.number ≡ b.body)
              (leaf_bodies (remove key chain))
              (flat_map entry_bodies (entries_in (remove key chain)))
              (leaves_read new (remove key chain)
              (said_kept mid new 3 (remove key chain) 0
              (λ m is. given.others m (omega (arith, is, left_in m, counts m, once m))) said))
              (contents_all new (entries_in (remove key chain))
              (contents_kept at new (entries_in (remove key chain))
              (λ m is. given.others m (omega (arith, is, left_in m, counts m, once m))
              ∙ same_page m (omega (
                arith,
                is,
                left_in m,
                counts m,
                once m,
                in_chain m,
                sum_by-remove (λ (n : ℕ). cond (n == m) 1 0) key chain,
                times_both m (pages_of (filter (is_at key) (entries_in chain)))
                    (emptied key chain),
              ))) left));
          free_read = list.are_read;
          others = λ m none. given.others m (omega (
            arith,
            none,
            times_given m
                (freed key chain) s,
          ))
              ∙ same_page m (omega (
                arith,
                none,
                counts m,
                times_given m (freed key chain) s,
                in_chain m,
              ));
        };
        kept = list.kept;
      }
