-- From a store that holds a map to the placement that its pages say.
use Rattle.std.proofs.Common.{◌≡◌, ℕ, ◌+◌, ◌≤◌, [], length, sym, ◌∙◌, ap, subst, arith}
use Rattle.std.specs.FinMap.{len}
use Rattle.page_model.specs.Pages.{Meta, Body, MetaPage}
use Rattle.dbm_model.specs.Pairs.{Contents, contents_of}
use Rattle.page_model.specs.Placement.{Placement, contents}
use Rattle.page_model.specs.PageBodies.{meta_of, lower_bodies, AreRead}
use Rattle.page_model.specs.Reading.{body_of}
use Rattle.page_model.specs.Meaning.{said_by, flat_pairs}
use Rattle.page_model.proofs.Flat.{flat_is_contents}
use Rattle.page_model.proofs.Stores.{counts_keys}
use Rattle.page_io.specs.Store.{Pages, page_of, overlaid}
use Rattle.page_io.specs.Views.{body_at}
use Rattle.page_io.specs.declared.store.PageStore.{Ghosts}
use Rattle.linear_hash.specs.Tables.{IsTable}
use Rattle.page_io.specs.Committing.{Holds}

same_meta : (m n : Meta) (body : Body) → body ≡ MetaPage m → body ≡ MetaPage n → m ≡ n
same_meta m n body is also = let e = sym is ∙ also in cc

module _ {S : Type 0} (s : Ghosts S) (store : S) where
  -- where nothing is staged, pages say what the committed ones do
  pub committed_said : (s.state store).staged ≡ []
      → body_at s store ≡ said_by (page_of (s.committed store))
  committed_said idle = ap (λ (staged : Pages). λ (n : ℕ).
      body_of n (overlaid staged (page_of (s.committed store)) n)) idle

  module _ (m : Meta) (map : Contents) (h : Holds s store m map) where
    -- what the pages say
    abbrev pub placed : Placement
    placed = h.stands.placement

    pub meta_held : m ≡ meta_of placed
    meta_held = same_meta m (meta_of placed) (said_by (page_of (s.committed store)) 1) h.meta_is
        h.stands.spelled.0

    -- `ends` is the store's law
    pub is_table : length (s.committed store) + 1 ≡ (s.state store).end
        → (s.state store).staged ≡ [] → IsTable (body_at s store) m (s.state store).end placed
    is_table ends idle = record {
      good = h.stands.good;
      are_read = subst (λ (at : ℕ → Body). AreRead at (lower_bodies placed))
          (sym (committed_said idle)) h.stands.spelled.1;
      meta_is = meta_held;
      ends = h.stands.ends ∙ ends;
    }

    -- the map is the placement's
    pub map_placed : contents placed ≡ map
    map_placed =
        let at = said_by (page_of (s.committed store)) in
        sym (flat_is_contents placed at h.stands.good h.stands.spelled)
        ∙ ap (λ (end : ℕ). contents_of (flat_pairs at end)) h.stands.ends
        ∙ h.stands.holds

    -- the meta page counts the pairs of the map
    pub counted : len map ≡ m.pairs
    counted = ap (λ (c : Contents). len c) (sym map_placed) ∙ counts_keys placed h.stands.good.sound
        ∙ ap (λ (n : Meta). n.pairs) (sym meta_held)

    -- and they are no more than its limit
    pub within_limit : len map ≤ m.bounds.limit
    within_limit = omega (
      arith,
      counted,
      ap (λ (n : Meta). n.pairs) meta_held,
      ap (λ (n : Meta). n.bounds.limit) meta_held,
      h.stands.good.few_pairs,
    )
