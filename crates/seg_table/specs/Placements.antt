-- What the table means for a placement: the segment pages say the head page of each bucket.
use Rattle.std.specs.Prelude.{◌≡◌, ℕ, ◌*◌, ◌^◌, ◌≤◌, ◌<◌, length, slice_index}
use Rattle.page_model.specs.Pages.{Body}
use Rattle.page_model.specs.Chain.{numbers}
use Rattle.page_model.specs.Placement.{Placement, chain_at, IsSound}
use Rattle.page_model.specs.PageBodies.{first_of, heads_of, meta_of, lower_bodies, AreRead}
use Rattle.seg_table.specs.Heads.{AreHeads}

-- the heads that are read are those of the chains, and each stands in a segment that is there
pub record HasHeads (at : ℕ → Body) (p : Placement) : Type 0 where
  pub heads_are : AreHeads at (meta_of p) (heads_of p.chains)
  pub room : length (heads_of p.chains) ≤ 508 * length p.segments
  pub each : (bucket : ℕ) → bucket < length p.chains
      → slice_index (heads_of p.chains) bucket ≡ first_of (numbers (chain_at p bucket))

-- where the pages but the meta page say a sound placement, whose pages are numbers of four bytes,
-- they have its heads
abbrev pub PlacementsHaveHeads : Type 0
PlacementsHaveHeads = (at : ℕ → Body) (p : Placement) → IsSound p → p.space.end ≤ 2 ^ 32
    → AreRead at (lower_bodies p) → HasHeads at p
