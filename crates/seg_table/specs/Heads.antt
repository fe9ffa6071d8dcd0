-- The heads of the buckets, in order, as a map from bucket to page.
use Rattle.std.specs.Prelude.{◌≡◌, ◌≢◌, ℕ, ◌+◌, ◌*◌, ◌/◌, ◌<◌, ◌≤◌, ◌==◌, max, Bool, List, [], ◌∷◌, ◌++◌, length, take, slice_set, slice_index, nat_lt, if◌then◌else◌, All}
use Rattle.page_model.specs.Numbers.{IsNumber}
use Rattle.page_model.specs.Pages.{Body, SegmentPage}
use Rattle.page_model.specs.Pages as model
use Rattle.page_model.specs.Valid.{meta_buckets}
use Rattle.page_model.specs.Space.{Space, next_page, after_take}
use Rattle.page_model.specs.PageBodies.{segment_bodies, AreRead}
use Rattle.free_pages.specs.declared.free_state.FreeState.{FreeState}
use Rattle.free_pages.specs.FreeList.{state_of, IsFreeList, IsApart}
use Rattle.seg_table.specs.Segments.{heads_in}

-- the segment pages of this meta page say these heads, one for each bucket
pub record AreHeads (at : ℕ → Body) (m : model.Meta) (heads : List ℕ) : Type 0 where
  pub are_read : AreRead at (segment_bodies m.segments heads)
  pub many : length heads ≡ meta_buckets m
  pub used : All (λ n. (0 < n) × IsNumber n) m.segments

-- the page of segment s says a head for each of its buckets that there is
pub record SaysSegment (at : ℕ → Body) (m : model.Meta) (s : ℕ) : Type 0 where
  pub heads : List ℕ
  pub says : at (slice_index m.segments s) ≡ SegmentPage heads
  pub many : length heads ≡ heads_in m s
  pub some : 0 < slice_index m.segments s

-- what is read is a segment page with this number at a place, 0 behind the last head
pub record HasEntry (body : Body) (i head : ℕ) : Type 0 where
  pub heads : List ℕ
  pub segment : body ≡ SegmentPage heads
  pub entry : head ≡ slice_index heads i

-- bucket b has this head: a bucket that there is, or the next one
abbrev pub with_head : List ℕ → ℕ → ℕ → List ℕ
with_head heads b head = if nat_lt b (length heads) then slice_set heads b head
    else heads ++ head ∷ []

-- the bucket is the first of a segment that isn't there yet
abbrev pub needs_segment : model.Meta → ℕ → Bool
needs_segment m b = b / 508 == length m.segments

-- a segment that isn't there yet gets the page that is taken next
abbrev pub segments_with : model.Meta → ℕ → Space → List ℕ
segments_with m b s = if needs_segment m b then m.segments ++ next_page s ∷ [] else m.segments

abbrev pub space_with : model.Meta → ℕ → Space → Space
space_with m b s = if needs_segment m b then after_take s else s

-- where a head may be set: of a bucket that there is, or of the next one
pub record CanSet (at : ℕ → Body) (m : model.Meta) (free : FreeState) (heads : List ℕ) (b head : ℕ)
    (s : Space) : Type 0 where
  pub heads_are : AreHeads at m heads
  pub free_is : IsFreeList at free s
  pub apart : IsApart m.segments s
  -- each head stands in a segment that is there
  pub room : length heads ≤ 508 * length m.segments
  pub bucket : b ≤ length heads
  pub some : 0 < head

-- the head was set, and one segment page was changed for it
pub record IsHeadSet (old new : ℕ → Body) (m n : model.Meta) (free : FreeState) (heads : List ℕ)
    (b head : ℕ) (s : Space) : Type 0 where
  pub segments_are : n ≡ record m { segments = segments_with m b s }
  pub free_is : free ≡ state_of (space_with m b s)
  pub are_read : AreRead new (segment_bodies n.segments (with_head heads b head))
  pub others : (k : ℕ) → k ≢ slice_index n.segments (b / 508) → new k ≡ old k

-- at most a segment was added behind those that there are
pub record AddsSegment (m n : model.Meta) (b : ℕ) : Type 0 where
  pub rest : n ≡ record m { segments = n.segments }
  pub kept : take (length m.segments) n.segments ≡ m.segments
  pub count : length n.segments ≡ max (length m.segments) (b / 508 + 1)
  pub used : All (λ k. (0 < k) × IsNumber k) m.segments → All (λ k. (0 < k) × IsNumber k) n.segments
