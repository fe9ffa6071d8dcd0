-- What a split of a bucket leaves in the pages on any file, also where it is damaged.
use Rattle.std.specs.Prelude.{◌≡◌, ◌≢◌, ◌==◌, ◌/◌, ◌%◌, ℕ, Bool, true, false, List, [], slice_index, if◌then◌else◌}
use Rattle.std.specs.Int.{bit_at}
use Rattle.std.specs.List.{AllByRecursion}
use Rattle.page_model.specs.Address.{hash_of}
use Rattle.page_model.specs.Pages.{Meta, Body, HeadPage, Record}
use Rattle.page_model.specs.Valid.{IsOf, meta_buckets}
use Rattle.free_pages.specs.declared.free_state.FreeState.{FreeState}
use Rattle.free_pages.specs.FreeList.{IsTaken}
use Rattle.seg_table.specs.Heads.{HasEntry}
use Rattle.seg_table.specs.Setting.{IsEntrySet}
use Rattle.bucket_chain.specs.Walks.{SaysAll}
use Rattle.bucket_chain.specs.AnyFile.{AreInTurn, AreAdded, IsEmptied}
use Rattle.linear_hash.specs.Staging.{IsGrown}

-- a page was taken, which says a head page with no record and no next page; no other page was
-- changed
pub record IsHeadTaken (old new : ℕ → Body) (before after : FreeState) (taken : ℕ) : Type 0 where
  pub is_taken : IsTaken old before taken after
  pub says : new taken ≡ HeadPage 0 []
  pub others : (n : ℕ) → n ≢ taken → new n ≡ old n

-- the chain from page `head` on was emptied, a head page was taken, and it was set as the next
-- bucket's
abbrev pub IsExtended : (ℕ → Body) → (ℕ → Body) → Meta → Meta → FreeState → FreeState → ℕ → ℕ → Type 0
IsExtended old new m n before after head taken =
    AreInTurn (λ mid between. IsEmptied old mid before between head) (λ mid between.
    AreInTurn (λ fresh left. IsHeadTaken mid fresh between left taken) (λ fresh left.
    IsEntrySet fresh new m.segments n.segments left after (meta_buckets m) taken))

-- a record of the bucket that is split belongs to the new one where this bit of its key's hash
-- is set
abbrev pub head_for : ℕ → ℕ → ℕ → Record → ℕ
head_for level head taken r = if bit_at (hash_of r.key) level == 1 then taken else head

-- The head page of bucket `split` was read from its segment, and from there on a chain to its end.
-- The records that were read are such as a page of the file's version may say. One bucket more was
-- added, and they were added in turn, each to its bucket.
pub record IsSplit (Ends : Type 0) (old new : ℕ → Body) (m n : Meta)
    (before after : FreeState) : Type 0 where
  pub head : ℕ
  pub taken : ℕ
  pub records : List Record
  pub entry : HasEntry (old (slice_index m.segments (m.split / 508))) (m.split % 508) head
  pub says : SaysAll old head records
  pub of_version : AllByRecursion (IsOf m.bounds.version) records
  pub change : AreInTurn (λ mid between. IsExtended old mid m n before between head taken)
      (λ mid between. AreAdded mid new Ends between after (head_for m.level head taken) records)
  pub grown : IsGrown m n

-- where there were too many pairs, a bucket was split, else nothing was changed
abbrev pub IsSplitWhere : Bool → Type 0 → (ℕ → Body) → (ℕ → Body) → Meta → Meta → FreeState
    → FreeState → Type 0
IsSplitWhere true Ends old new m n before after = IsSplit Ends old new m n before after
IsSplitWhere false Ends old new m n before after = (new ≡ old) × (n ≡ m) × (after ≡ before)
