-- The buckets of segments, each with its chain.
use Rattle.std.specs.Prelude.{◌≡◌, ℕ, ◌+◌, ◌-◌, ◌*◌, ◌^◌, ◌<◌, min, Bool, List, [], ◌++◌, length, flat_map, slice_index, slice_index_or}
use Rattle.std.specs.List.{AllByRecursion}
use Rattle.page_model.specs.Address.{Shape}
use Rattle.page_model.specs.Bytes.{u32_at}
use Rattle.page_model.specs.Pages.{Body, SegmentPage}
use Rattle.page_model.specs.Pages as model
use Rattle.page_model.specs.Chain.{Chain, numbers, pages_in, pairs_in}
use Rattle.page_model.specs.Valid.{meta_buckets}
use Rattle.page_model.specs.PageBodies.{first_of, heads_of, segment_bodies, AreRead}
use Rattle.file_check.specs.Marks.{AreMarked}
use Rattle.seg_table.specs.Segments.{heads_in}
use Rattle.file_check.specs.BucketChains.{IsBucketChain}

-- the shape that the meta page says
abbrev pub shape_in : model.Meta → Shape
shape_in m = record { level = m.level; split = m.split }

-- these chains are those of the buckets from `first` on
abbrev pub AreChains : (ℕ → Body) → model.Meta → ℕ → List Chain → Type 0
AreChains at m first chains = (i : ℕ) → i < length chains
    → IsBucketChain m.bounds.version at (shape_in m) (first + i)
    (first_of (numbers (slice_index_or chains i [])))
    (slice_index_or chains i [])

-- the segment pages of this meta page say the heads of these chains, one for each bucket
pub record AreBuckets (at : ℕ → Body) (m : model.Meta) (chains : List Chain) : Type 0 where
  pub are_read : AreRead at (segment_bodies m.segments (heads_of chains))
  pub many : length chains ≡ meta_buckets m
  pub are : AreChains at m 0 chains

-- such chains were read, have so many pairs, 4,294,967,295 where there are more, and their pages
-- and those of their contents are marked beside those seen before
pub record AreChecked (at : ℕ → Body) (end : ℕ) (m : model.Meta) (pairs : ℕ) (marks : List Bool)
    (seen : List ℕ) : Type 0 where
  pub chains : List Chain
  pub are : AreBuckets at m chains
  pub counted : pairs ≡ min (length (flat_map pairs_in chains)) (2 ^ 32 - 1)
  pub marked : AreMarked marks end (seen ++ flat_map pages_in chains)

-- these chains have so many pairs, 4,294,967,295 where there are more, and their pages and
-- those of their contents are marked beside those seen before
pub record AreCounted (chains : List Chain) (end pairs : ℕ) (marks : List Bool)
    (seen : List ℕ) : Type 0 where
  pub counted : pairs ≡ min (length (flat_map pairs_in chains)) (2 ^ 32 - 1)
  pub marked : AreMarked marks end (seen ++ flat_map pages_in chains)

-- these chains are those of the first heads on the page, of the buckets from `first` on
pub record AreHeadChains (at : ℕ → Body) (m : model.Meta) (bytes : List ℕ) (first count : ℕ)
    (chains : List Chain) : Type 0 where
  pub many : length chains ≡ count
  pub heads : (i : ℕ) → i < length chains
      → u32_at bytes (16 + 4 * i) ≡ first_of (numbers (slice_index_or chains i []))
  pub are : AreChains at m first chains

-- such chains were read, and no head is 0
pub record AreHeadsChecked (at : ℕ → Body) (end : ℕ) (m : model.Meta) (bytes : List ℕ)
    (first count pairs : ℕ) (marks : List Bool) (seen : List ℕ) : Type 0 where
  pub chains : List Chain
  pub are : AreHeadChains at m bytes first count chains
  pub some : AllByRecursion (λ head. 0 < head) (heads_of chains)
  pub counted : AreCounted chains end pairs marks seen

-- the page of segment s says the heads of these chains, one for each of its buckets
pub record AreInSegment (at : ℕ → Body) (m : model.Meta) (s : ℕ)
    (chains : List Chain) : Type 0 where
  pub said : at (slice_index m.segments s) ≡ SegmentPage (heads_of chains)
  pub many : length chains ≡ heads_in m s
  pub are : AreChains at m (508 * s) chains

-- such chains were read
pub record IsSegmentChecked (at : ℕ → Body) (end : ℕ) (m : model.Meta) (s pairs : ℕ)
    (marks : List Bool) (seen : List ℕ) : Type 0 where
  pub chains : List Chain
  pub are : AreInSegment at m s chains
  pub counted : AreCounted chains end pairs marks seen
