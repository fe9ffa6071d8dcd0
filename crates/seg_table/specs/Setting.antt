-- What a set head leaves in the pages on any file, also where the segment pages or the free list
-- are damaged.
use Rattle.std.specs.Prelude.{◌≡◌, ◌≢◌, ◌⊎◌, ℕ, ◌/◌, ◌%◌, ◌<◌, List, [], ◌∷◌, ◌++◌, length, slice_index}
use Rattle.page_model.specs.Pages.{Body, SegmentPage}
use Rattle.free_pages.specs.declared.free_state.FreeState.{FreeState}
use Rattle.free_pages.specs.FreeList.{IsTaken}

-- a segment page with this head at a place and these at all others, 0 behind the last
pub record SaysEntry (body : Body) (others : List ℕ) (i head : ℕ) : Type 0 where
  pub heads : List ℕ
  pub segment : body ≡ SegmentPage heads
  pub entry : head ≡ slice_index heads i
  pub rest : (k : ℕ) → k ≢ i → slice_index heads k ≡ slice_index others k

-- the bucket's segment was read, and its page now says this head among the others that it said; no
-- other page was changed
pub record IsSetOn (old new : ℕ → Body) (segments : List ℕ) (b head : ℕ) : Type 0 where
  pub there : b / 508 < length segments
  pub others : List ℕ
  pub segment : old (slice_index segments (b / 508)) ≡ SegmentPage others
  pub says : SaysEntry (new (slice_index segments (b / 508))) others (b % 508) head
  pub kept : (n : ℕ) → n ≢ slice_index segments (b / 508) → new n ≡ old n

-- there was no such segment: a page was taken for it, which says this head alone, and stands behind
-- the other segments; no other page was changed
pub record IsSetBehind (old new : ℕ → Body) (segments grown : List ℕ) (before after : FreeState)
    (b head : ℕ) : Type 0 where
  pub none : b / 508 ≡ length segments
  pub taken : ℕ
  pub is_taken : IsTaken old before taken after
  pub says : SaysEntry (new taken) [] (b % 508) head
  pub kept : (n : ℕ) → n ≢ taken → new n ≡ old n
  pub behind : grown ≡ segments ++ taken ∷ []

-- the head of bucket b was set, from these segments to those
abbrev pub IsEntrySet : (ℕ → Body) → (ℕ → Body) → List ℕ → List ℕ → FreeState → FreeState → ℕ → ℕ
    → Type 0
IsEntrySet old new segments grown before after b head =
    (IsSetOn old new segments b head × (grown ≡ segments) × (after ≡ before))
    ⊎ IsSetBehind old new segments grown before after b head
