-- The pages of a linear hash file, and what is kept of its meta page.
use Rattle.std.specs.Prelude.{◌≡◌, ℕ, ◌*◌, length, nat_lt, if◌then◌else◌}
use Rattle.page_model.specs.Address.{Shape, buckets, grown}
use Rattle.page_model.specs.Pages.{Meta, Body}
use Rattle.page_model.specs.Placement.{Placement, pairs_of, split, IsGood}
use Rattle.page_model.specs.PageBodies.{meta_of, lower_bodies, AreRead}
use Rattle.free_pages.specs.declared.free_state.FreeState.{FreeState}
use Rattle.page_io.specs.declared.store.PageStore.{Ghosts}
use Rattle.page_io.specs.Views.{body_at}

abbrev pub shape_in : Meta → Shape
shape_in m = record { level = m.level; split = m.split }

-- the free pages and the end as a call keeps them
abbrev pub space_in : Meta → ℕ → FreeState
space_in m end = record { head = m.free_head; count = m.free_count; file_end = end }

-- pages 2 to end - 1 say a good placement, and this is what its meta page says
pub record IsTable (at : ℕ → Body) (m : Meta) (end : ℕ) (p : Placement) : Type 0 where
  pub good : IsGood p
  pub are_read : AreRead at (lower_bodies p)
  pub meta_is : m ≡ meta_of p
  pub ends : p.space.end ≡ end

-- one bucket more where there would be more than eight pairs to a bucket
abbrev pub shape_for : ℕ → Shape → Shape
shape_for pairs s = if nat_lt (8 * buckets s) pairs then grown s else s

-- the same of a placement
abbrev pub split_where_full : Placement → Placement
split_where_full p = if nat_lt (8 * length p.chains) (length (pairs_of p)) then split p else p

-- what is said of an honest store whose pages say a good placement
abbrev pub ForEachTable : {S : Type 0} → Ghosts S → S → Meta → (Placement → Type 0) → Type 0
ForEachTable s store m Says =
    s.honest store → (p : Placement) → IsTable (body_at s store) m (s.state store).end p → Says p
