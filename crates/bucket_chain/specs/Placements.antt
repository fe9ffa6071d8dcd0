-- What the calls mean for a placement: each bucket's chain, with the free list beside it, is one of
-- its parts.
use Rattle.std.specs.Prelude.{◌≡◌, ℕ, ◌^◌, ◌<◌, ◌≤◌, List, ◌++◌, length}
use Rattle.dbm_model.specs.Pairs.{Key, Pair}
use Rattle.page_model.specs.Pages.{Body}
use Rattle.page_model.specs.Chain.{Entry, numbers}
use Rattle.page_model.specs.Space.{times_of}
use Rattle.page_model.specs.Placement.{Placement, key_bucket, chain_at, put_entry, put, delete, IsSoundBeside, IsSound}
use Rattle.page_model.specs.PageBodies.{first_of, entry_bodies, lower_bodies, AreRead}
use Rattle.free_pages.specs.declared.free_state.FreeState.{FreeState}
use Rattle.free_pages.specs.FreeList.{state_of}
use Rattle.bucket_chain.specs.Changes.{Placed, IsPlaced, put_in, put_pair, remove_from, BecomesPlaced}

-- all pages but the meta page say the placement, and this is kept of its free list
pub record IsBelow (at : ℕ → Body) (state : FreeState) (p : Placement) : Type 0 where
  pub are_read : AreRead at (lower_bodies p)
  pub kept : state ≡ state_of p.space

-- the chain of a key's bucket, with the free list
abbrev pub placed_for : Placement → Key → Placed
placed_for p key = (chain_at p (key_bucket p.shape key), p.space)

-- where the pages say a placement that is sound beside others, whose page numbers can be told, the
-- chain of each bucket is placed
abbrev pub ChainsArePlaced : Type 0
ChainsArePlaced = (at : ℕ → Body) (state : FreeState) (held : List ℕ) (p : Placement) (bucket : ℕ)
    → IsSoundBeside held p → p.space.end ≤ 2 ^ 32 → IsBelow at state p → bucket < length p.chains
    → IsPlaced p.bounds.version at state (first_of (numbers (chain_at p bucket)))
    (chain_at p bucket) p.space

-- an entry that is put into the chain of its bucket is put into the placement, and all other pages
-- beside it stay
abbrev pub EntriesArePlacements : Type 0
EntriesArePlacements = (at at' : ℕ → Body) (state state' : FreeState) (held : List ℕ)
    (p : Placement) (e : Entry)
    → IsSoundBeside (e.pages ++ held) p → IsSoundBeside held (put_entry p e)
    → IsBelow at state p → AreRead at (entry_bodies e)
    → BecomesPlaced at at' state' (put_in (placed_for p e.pair.0) e)
    → IsBelow at' state' (put_entry p e) × ((n : ℕ) → 1 ≤ times_of n held → at' n ≡ at n)

-- a pair that is put into the chain of its bucket is put into the placement
abbrev pub PutsArePlacements : Type 0
PutsArePlacements = (at at' : ℕ → Body) (state state' : FreeState) (p : Placement) (pair : Pair)
    → IsSound p → IsSound (put p pair) → IsBelow at state p
    → BecomesPlaced at at' state' (put_pair (placed_for p pair.0) pair)
    → IsBelow at' state' (put p pair)

-- a key that is removed from the chain of its bucket is deleted from the placement
abbrev pub RemovalsArePlacements : Type 0
RemovalsArePlacements = (at at' : ℕ → Body) (state state' : FreeState) (p : Placement) (key : Key)
    → IsSound p → IsBelow at state p
    → BecomesPlaced at at' state' (remove_from (placed_for p key) key)
    → IsBelow at' state' (delete p key)
