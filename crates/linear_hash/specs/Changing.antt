-- What a change of the pairs leaves in the pages, on any file.
use Rattle.std.specs.Prelude.{◌≡◌, ℕ, ◌*◌, ◌<◌, nat_lt, Bool, true, false}
use Rattle.dbm_model.specs.Bounds.{Version, upgraded}
use Rattle.dbm_model.specs.Pairs.{Key, Pair}
use Rattle.page_model.specs.Pages.{Meta, Body, MetaPage}
use Rattle.page_model.specs.Valid.{meta_buckets}
use Rattle.free_pages.specs.declared.free_state.FreeState.{FreeState}
use Rattle.seg_table.specs.Heads.{HasEntry}
use Rattle.bucket_chain.specs.AnyFile.{AreInTurn, IsPut, IsTakenOut}
use Rattle.linear_hash.specs.AnyFile.{IsSplitWhere}
use Rattle.linear_hash.specs.Looking.{key_segment, key_entry}
use Rattle.linear_hash.specs.Tables.{space_in}

-- a change of the chain from the head page on that is read for the key's bucket
pub record InBucket (at : ℕ → Body) (m : Meta) (key : Key) (Change : ℕ → Type 0) : Type 0 where
  pub head : ℕ
  pub segment : HasEntry (at (key_segment m key)) (key_entry m key) head
  pub change : Change head

-- the key was taken out of its bucket
abbrev pub TookOut : (ℕ → Body) → Meta → FreeState → Key → (ℕ → Body) → FreeState → Type 0
TookOut old m before key new after =
    InBucket old m key (λ head. IsTakenOut m.bounds.version old new before after head key)

-- where the key was there, it was taken out
abbrev pub IsOutWhere : Bool → Version → (ℕ → Body) → (ℕ → Body) → FreeState → FreeState → ℕ → Key
    → Type 0
IsOutWhere true version old new before after head key =
    IsTakenOut version old new before after head key
IsOutWhere false version old new before after head key = (new ≡ old) × (after ≡ before)

-- the pair was put into its key's bucket, once the key was out of it
abbrev pub PutIn : Bool → Type 0 → (ℕ → Body) → Meta → FreeState → Pair → (ℕ → Body) → FreeState
    → Type 0
PutIn was_there Ends old m before pair new after =
    InBucket old m pair.0 (λ head.
    AreInTurn (λ mid between. IsOutWhere was_there m.bounds.version old mid before between
    head pair.0)
    (λ mid between. IsPut mid new Ends between after head pair))

-- The pages were changed so, and then page 1 says what is kept of it: the count of pairs, and the
-- free pages as the change left them. No other page below the end was changed.
pub record IsWritten (Change : (ℕ → Body) → FreeState → Type 0) (new : ℕ → Body)
    (before after : Meta) (end : ℕ) : Type 0 where
  pub mid : ℕ → Body
  pub change : Change mid (space_in after end)
  pub kept : after ≡ record before {
    pairs = after.pairs;
    free_head = after.free_head;
    free_count = after.free_count;
  }
  pub meta : new 1 ≡ MetaPage after
  pub others : (n : ℕ) → 1 < n → n < end → new n ≡ mid n

-- from a file that ends at `start` to one that ends at `end`
abbrev pub IsDeleted : (ℕ → Body) → (ℕ → Body) → Meta → Meta → ℕ → ℕ → Key → Type 0
IsDeleted old new before after start end key =
    IsWritten (TookOut old before (space_in before start) key) new before after end

-- with the shape and the segments of another one
abbrev pub shaped_as : Meta → Meta → Meta
shaped_as m n = record m { level = n.level; split = n.split; segments = n.segments }

-- The pair was put into its bucket, and where there are then more than eight pairs to a bucket, one
-- was split.
abbrev pub Stores : Bool → (ℕ → Body) → Meta → Meta → FreeState → Pair → (ℕ → Body) → FreeState
    → Type 0
Stores was_there old before after space pair new left =
    AreInTurn (PutIn was_there (Unit {0}) old before space pair) (λ mid between.
    IsSplitWhere (nat_lt (8 * meta_buckets before) after.pairs) (Unit {0}) mid new before
    (shaped_as before after) between left)

abbrev pub IsStored : Bool → (ℕ → Body) → (ℕ → Body) → Meta → Meta → ℕ → ℕ → Pair → Type 0
IsStored was_there old new before after start end pair =
    IsWritten (Stores was_there old before after (space_in before start) pair)
    new (shaped_as before after) after end

-- Page 1 now says the bounds of version 2 with all else that it said. No other page below the end
-- was changed.
pub record IsUpgraded (old new : ℕ → Body) (before after : Meta) (end : ℕ) : Type 0 where
  pub kept : after ≡ record before { bounds = upgraded before.bounds }
  pub meta : new 1 ≡ MetaPage after
  pub others : (n : ℕ) → 1 < n → n < end → new n ≡ old n
