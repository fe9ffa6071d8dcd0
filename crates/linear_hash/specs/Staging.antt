-- What a change stages.
use Rattle.std.specs.Prelude.{◌≡◌, ◌⊎◌, ◌+◌, ◌*◌, ◌^◌, ◌<◌, ◌≤◌, ℕ, Bool, if◌then◌else◌, true, false, length, Result, IfErr, IsErrOf}
use Rattle.std.specs.FinMap.{get}
use Rattle.dbm_model.specs.Bounds.{Version, V2}
use Rattle.dbm_model.specs.Pairs.{Pair, is_far}
use Rattle.dbm_model.specs.Sizes.{pages_for}
use Rattle.dbm_model.specs.Steps.{holds_far}
use Rattle.page_model.specs.Address.{Shape, grown}
use Rattle.page_model.specs.Pages.{Meta, Body}
use Rattle.page_model.specs.Placement.{Placement, contents, IsSound}
use Rattle.page_model.specs.PageBodies.{meta_of, IsSpelled}
use Rattle.page_model.specs.Valid.{IsMeta, meta_buckets}
use Rattle.free_pages.specs.declared.free_state.FreeState.{FreeState}
use Rattle.page_io.specs.Store.{StoreState}
use Rattle.page_io.specs.declared.store.PageFault.{PageFault}
use Rattle.page_io.specs.declared.store.PageFault.TheVariants.{Memory, Device, Broken, NoRoom, Damaged}
use Rattle.seg_table.specs.Heads.{AddsSegment}
use Rattle.bucket_chain.specs.Placements.{IsBelow}
use Rattle.linear_hash.specs.Tables.{shape_in}
use Rattle.page_io.specs.declared.store.PageStore.{Ghosts}
use Rattle.page_io.specs.Views.{body_at}
use Rattle.page_io.specs.Committing.{MayCommit}

-- the pages but the meta page say a sound placement midway in a change, and this is kept of it
-- beside the number of its pairs
pub record IsMidway (at : ℕ → Body) (m : Meta) (space : FreeState) (p : Placement) : Type 0 where
  pub sound : IsSound p
  pub below : IsBelow at space p
  pub shape_is : shape_in m ≡ p.shape
  pub segments_are : m.segments ≡ p.segments
  pub bounds_are : m.bounds ≡ p.bounds

-- a change may be refused so
pub record IsChangeAnswer {T : Type 0} (state : StoreState)
    (result : Result T PageFault) : Type 0 where
  pub broken : IsErrOf result Broken → state.usable ≡ false
  pub only : IfErr result (λ e.
      (e ≡ Broken) ⊎ ((e ≡ Memory) ⊎ ((e ≡ NoRoom) ⊎ ((e ≡ Damaged) ⊎ (e ≡ Device)))))

-- A put may be refused so, where the content has `pages` pages of its own, and the removal of the
-- pair that is replaced stages at most `removed`. NoRoom comes only where the pages of the content
-- and one more don't fit behind the kept end.
pub record IsReplaceAnswer {T : Type 0} (reserved : ℕ) (state : StoreState) (space : FreeState)
    (pages removed : ℕ) (result : Result T PageFault) : Type 0 where
  pub change : IsChangeAnswer state result
  pub memory : IsErrOf result Memory → reserved ≤ length state.staged + 1 + pages + removed
  pub room : IsErrOf result NoRoom → state.capacity ≤ space.file_end + pages

-- a delete may be refused so: it takes memory in version 2 alone, and no page
pub record IsDeleteAnswer {T : Type 0} (state : StoreState) (version : Version)
    (result : Result T PageFault) : Type 0 where
  pub change : IsChangeAnswer state result
  pub memory : IsErrOf result Memory → version ≡ V2
  pub no_room : IsErrOf result NoRoom → ⊥

-- it is never Damaged, and lacks room only on a device that has room for no more than `most` pages
pub record LacksOnlyRoom {T : Type 0} (capacity most : ℕ) (result : Result T PageFault)
    : Type 0 where
  pub whole : IsErrOf result Damaged → ⊥
  pub room : IsErrOf result NoRoom → capacity ≤ most

-- what is staged can be committed with this end, which is no less than the old one
pub record IsNewEnd (old new : StoreState) (end : ℕ) : Type 0 where
  pub may_commit : MayCommit new end
  pub grows : old.end ≤ end

-- what is kept of the meta page is valid, has the bounds that it had, and says this count of pairs
-- and this shape
pub record IsKept (before after : Meta) (count : ℕ) (shape : Shape) : Type 0 where
  pub valid : IsMeta after
  pub bounds : after.bounds ≡ before.bounds
  pub pairs : after.pairs ≡ count
  pub shaped : shape_in after ≡ shape

-- with one pair more, where its key is new, there would be more than eight pairs to a bucket
abbrev pub WouldSplit : Meta → Bool → Type 0
WouldSplit m was_there = 8 * meta_buckets m < (if was_there then m.pairs else m.pairs + 1)

-- a store takes memory at the most where it splits a bucket, or the pair is far, or in version 2
-- another is replaced
abbrev pub MayTakeMemory : Meta → Bool → Pair → Type 0
MayTakeMemory m was_there pair = WouldSplit m was_there ⊎ ((is_far pair ≡ true)
    ⊎ ((was_there ≡ true) × (m.bounds.version ≡ V2)))

-- of pages that say a placement: where it splits a bucket, or one of the two pairs is far
abbrev pub TakesMemory : Meta → Placement → Bool → Pair → Type 0
TakesMemory m p was_there pair = WouldSplit m was_there ⊎ ((is_far pair ≡ true)
    ⊎ (holds_far pair.0 (get (contents p) pair.0) ≡ true))

-- how many pages the removal of a key that is there stages at most: one of the chain, and one that
-- is given or is the one before it, or those of a content
abbrev pub removal_pages : Version → Bool → ℕ
removal_pages version was_there = if was_there then 1 + pages_for version else 0

-- one bucket more, and at most one segment
pub record IsGrown (old new : Meta) : Type 0 where
  pub shape : shape_in new ≡ grown (shape_in old)
  pub segments : AddsSegment old (record old { segments = new.segments })
      (2 ^ old.level + old.split)
  pub rest : new ≡ record old { level = new.level; split = new.split; segments = new.segments }

-- with those that are staged the pages spell this placement, and this is kept of it
pub record IsStaged (at : ℕ → Body) (m : Meta) (end : ℕ) (p : Placement) : Type 0 where
  pub spelled : IsSpelled at p
  pub meta_is : m ≡ meta_of p
  pub ends : p.space.end ≡ end

-- what is said of an honest store whose pages say a placement midway in a change
abbrev pub ForEachMidway : {S : Type 0} → Ghosts S → S → Meta → FreeState
    → (Placement → Type 0) → Type 0
ForEachMidway s store m space Says =
    s.honest store → (p : Placement) → IsMidway (body_at s store) m space p → Says p
