-- A good file, by what its pages say.
use Rattle.std.specs.Prelude.{◌≡◌, ◌≤◌, ℕ, List, ◌∷◌, ◌++◌, length, flat_map}
use Rattle.page_model.specs.Pages.{Meta, Body}
use Rattle.page_model.specs.Chain.{Chain, pages_in, pairs_in}
use Rattle.dbm_model.specs.Sizes.{home}
use Rattle.page_model.specs.Placement.{Placement, pairs_of, IsGood}
use Rattle.page_model.specs.PageBodies.{IsSpelled}
use Rattle.file_check.specs.Marks.{IsEachSeen}
use Rattle.file_check.specs.FreeLists.{IsList}
use Rattle.file_check.specs.Segments.{AreBuckets}

-- pages 1 to end - 1 spell a good placement of so many pairs
pub record IsGoodFile (at : ℕ → Body) (end pairs : ℕ) : Type 0 where
  pub placement : Placement
  pub good : IsGood placement
  pub spelled : IsSpelled at placement
  pub ends : placement.space.end ≡ end
  pub counted : length (pairs_of placement) ≡ pairs

-- all pages but the meta page are as it asks for
pub record IsFilled (at : ℕ → Body) (end : ℕ) (m : Meta) : Type 0 where
  pub chains : List Chain
  pub free : List ℕ
  pub buckets : AreBuckets at m chains
  pub list : IsList at m.free_head m.free_count free
  pub each : IsEachSeen end (((1 ∷ m.segments) ++ flat_map pages_in chains) ++ free)
  pub counted : length (flat_map pairs_in chains) ≡ m.pairs
  pub bounded : end ≤ home m.bounds
