-- What is known of a change behind the look for its key.
use Rattle.std.proofs.Common.{◌≡◌, ℕ, ◌+◌, ◌≤◌, length, Bool, true, false, Result, IsErrOf, refl, sym, ap, subst, arith}
use Rattle.std.specs.FinMap.{get}
use Rattle.dbm_model.specs.Bounds.{Bounds}
use Rattle.dbm_model.specs.Calls as model
use Rattle.dbm_model.specs.Pairs.{Key, Contents}
use Rattle.dbm_model.specs.Sizes.{home, most_taken}
use Rattle.dbm_model.specs.Steps.{IsShort, holds_far}
use Rattle.page_model.specs.Pages.{Meta}
use Rattle.page_model.specs.Placement.{Placement, contents}
use Rattle.page_io.specs.Views.{body_at}
use Rattle.page_io.specs.declared.store.PageStore.{Ghosts}
use Rattle.page_io.specs.declared.store.PageFault.{PageFault}
use Rattle.page_io.specs.declared.store.PageFault.TheVariants as page
use Rattle.linear_hash.specs.Holding.{ChangesMap}
use Rattle.linear_hash.specs.Tables.{IsTable}
use Rattle.linear_hash.proofs.Tables.{placed, map_placed, is_table}
use Rattle.dbm_file.specs.Database.{store_of, meta_kept, page_state, handle_of}
use Rattle.dbm_file.specs.declared.database.Database.{Database}
use Rattle.dbm_file.proofs.ChangeSteps.{IsAsked, mid_holds, mid_pairs}
use Rattle.dbm_file.proofs.ReadSteps.{still_bounds, still_capacity, still_end}

-- a test that isn't false
not_false : (b : Bool) → (b ≡ false → ⊥) → b ≡ true
not_false true other = refl
not_false false other = absurd (other refl)

module _ {S : Type 0} (s : Ghosts S) {old mid : Database S s} {map changed : Contents}
    {wanted : Bounds} {call : model.Call} {said : model.Reply}
    (asked : IsAsked s old mid map changed wanted call said) where
  -- the placement that the pages say
  abbrev pub mid_placed : Placement
  mid_placed = placed s (store_of mid) (meta_kept mid) map (mid_holds s asked)

  pub mid_map : contents mid_placed ≡ map
  mid_map = map_placed s (store_of mid) (meta_kept mid) map (mid_holds s asked)

  -- `ends` is the store's law
  pub mid_table : length (s.committed (store_of mid)) + 1 ≡ (page_state mid).end
      → IsTable (body_at s (store_of mid)) (meta_kept mid) (page_state mid).end mid_placed
  mid_table ends = is_table s (store_of mid) (meta_kept mid) map (mid_holds s asked) ends mid.idle

  abbrev bounds_still : (meta_kept mid).bounds ≡ (meta_kept old).bounds
  bounds_still = still_bounds s old mid asked.read

  -- a change that keeps the bounds of the meta page keeps those of the database
  pub turns_to : (new : S) (after : Meta) {most : ℕ} {r : Result (Unit {0}) PageFault}
      → ChangesMap s (store_of mid) new (meta_kept mid) after map changed (meta_kept mid).bounds
      most r → ChangesMap s (store_of mid) new (meta_kept mid) after map changed
      (meta_kept old).bounds most r
  turns_to new after {most} {r} turns = subst (λ (b : Bounds).
      ChangesMap s (store_of mid) new (meta_kept mid) after map changed b most r) bounds_still turns

  pub fits_mid : {end : ℕ} → end ≤ home (meta_kept old).bounds → end ≤ home (meta_kept mid).bounds
  fits_mid {end} few = subst (λ (b : Bounds). end ≤ home b) (sym bounds_still) few

  -- it lacks room only where the definitions say so
  pub lacks_room : (new : S) (after : Meta) {most : ℕ} {r : Result (Unit {0}) PageFault}
      → ChangesMap s (store_of mid) new (meta_kept mid) after map changed (meta_kept old).bounds
      most r → IsErrOf r page.NoRoom → IsShort (handle_of old map)
  lacks_room new after turns is =
      let lacks = turns.no_room is in
      let capacity = still_capacity s old mid asked.read in (
        omega (arith, lacks.0, capacity),
        omega (
          arith,
          lacks.1,
          capacity,
          still_end s old mid asked.read,
          mid_pairs s asked,
          ap (λ (b : Bounds). most_taken b.version) bounds_still,
        ),
      )

  -- where the key's content isn't near, it is far
  pub frees : (key : Key) → (holds_far key (get (contents mid_placed) key) ≡ false → ⊥)
      → holds_far key (get map key) ≡ true
  frees key other = subst (λ (c : Contents). holds_far key (get c key) ≡ true) mid_map
      (not_false (holds_far key (get (contents mid_placed) key)) other)
