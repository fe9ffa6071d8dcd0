-- One bucket more, before the records of the bucket that is split are put again.
use Rattle.std.specs.Prelude.{◌≡◌, ℕ, List, map, flat_map}
use Rattle.dbm_model.specs.Bounds.{Version}
use Rattle.page_model.specs.Address.{Shape}
use Rattle.page_model.specs.Pages.{Meta, Body, Record}
use Rattle.page_model.specs.Chain.{Entry, numbers, entries_in, record_of}
use Rattle.page_model.specs.Placement.{Placement, chain_at, extended, IsSound}
use Rattle.page_model.specs.PageBodies.{first_of, entry_bodies, AreRead}
use Rattle.page_model.specs.Rewrites.{new_head}
use Rattle.free_pages.specs.declared.free_state.FreeState.{FreeState}
use Rattle.bucket_chain.specs.Placements.{IsBelow}

-- the entries of bucket `split`
abbrev pub entries_split : Placement → List Entry
entries_split p = entries_in (chain_at p p.shape.split)

-- the pages but the meta page say the placement with a further bucket, whose head is page n, and
-- beside it the contents of the bucket that is split
pub record IsBucketAdded (at : ℕ → Body) (m : Meta) (space : FreeState) (p : Placement)
    (n : ℕ) : Type 0 where
  pub below : IsBelow at space (extended p)
  pub segments_are : m.segments ≡ (extended p).segments
  pub head : n ≡ (new_head p).number
  pub contents : AreRead at (flat_map entry_bodies (entries_split p))

-- The extended placement is said by the pages, and beside it the contents of the bucket that is
-- split. These are the records that are put again, with the head pages of their two buckets.
pub record IsRefilled (version : Version) (at : ℕ → Body) (space : FreeState) (shape : Shape)
    (head n : ℕ) (records : List Record) (p : Placement) : Type 0 where
  pub version_is : version ≡ p.bounds.version
  pub sound : IsSound p
  pub below : IsBelow at space (extended p)
  pub shape_is : shape ≡ p.shape
  pub old_head : head ≡ first_of (numbers (chain_at p p.shape.split))
  pub new_head_is : n ≡ (new_head p).number
  pub contents : AreRead at (flat_map entry_bodies (entries_split p))
  pub records_are : records ≡ map record_of (entries_split p)
