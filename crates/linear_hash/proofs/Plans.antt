-- What a change of a file that holds a map is to leave.
use Rattle.std.proofs.Common.{◌≡◌, ◌∙◌, ℕ, ◌<◌, ◌≤◌, Bool, false, Option, is_some, List, sym, ap, subst, arith}
use Rattle.std.specs.FinMap.{get, insert, remove}
use Rattle.dbm_model.specs.Bounds.{Bounds}
use Rattle.dbm_model.specs.Sizes.{home}
use Rattle.page_model.specs.Pages.{Meta}
use Rattle.dbm_model.specs.Pairs.{Key, Pair, Contents, IsAllowed}
use Rattle.page_model.specs.PairLists.{HasBytes}
use Rattle.page_model.specs.Placement.{Placement, contents, delete, store, IsGood, MayStore}
use Rattle.page_model.proofs.Stores.{counts_keys, store_stays_good, delete_stays_good}
use Rattle.page_io.specs.declared.store.PageStore.{Ghosts}
use Rattle.page_io.specs.Committing.{Holds}
use Rattle.linear_hash.proofs.Tables.{placed, meta_held, map_placed}

module _ {S : Type 0} (s : Ghosts S) (old : S) (m : Meta) (map : Contents)
    (holds : Holds s old m map) where
  abbrev pub now : Placement
  now = placed s old m map holds

  pub was_placed : (key : Key) (was : Bool) → was ≡ is_some (get map key)
      → was ≡ is_some (get (contents now) key)
  was_placed key was is = is ∙ ap (λ (c : Contents). is_some (get c key))
      (sym (map_placed s old m map holds))

  pub may_store : (pair : Pair) (was : Bool) → IsAllowed m.bounds.version pair → HasBytes pair
      → was ≡ is_some (get map pair.0) → (was ≡ false → m.pairs < m.bounds.limit)
      → MayStore now pair
  may_store pair was small bytes is room = record {
    allowed = subst (λ (b : Bounds). IsAllowed b.version pair)
        (ap (λ (n : Meta). n.bounds) (meta_held s old m map holds)) small;
    bytes = bytes;
    room = λ none.
        let new : was ≡ false = was_placed pair.0 was is
        ∙ ap (λ (o : Option (List ℕ)). is_some o) none in
        omega (
          arith,
          room new,
          counts_keys now holds.stands.good.sound,
          ap (λ (n : Meta). n.pairs) (meta_held s old m map holds),
          ap (λ (n : Meta). n.bounds.limit) (meta_held s old m map holds),
        );
  }

  pub stored_good : (pair : Pair) → MayStore now pair → IsGood (store now pair)
  stored_good pair may = (store_stays_good now pair holds.stands.good may).0

  pub stored_map : (pair : Pair) → MayStore now pair
      → contents (store now pair) ≡ insert map pair.0 pair.1
  stored_map pair may = (store_stays_good now pair holds.stands.good may).1
      ∙ ap (λ (c : Contents). insert c pair.0 pair.1) (map_placed s old m map holds)

  -- it has no more pages than a database of the bounds needs
  pub stored_bounded : (pair : Pair) → MayStore now pair
      → (store now pair).space.end ≤ home m.bounds
  stored_bounded pair may =
      let stays = store_stays_good now pair holds.stands.good may in
      subst (λ (bounds : Bounds). (store now pair).space.end ≤ home bounds)
      (stays.2 ∙ sym (ap (λ (n : Meta). n.bounds) (meta_held s old m map holds))) stays.0.bounded

  pub deleted_good : (key : Key) → IsGood (delete now key)
  deleted_good key = (delete_stays_good now key holds.stands.good).0

  pub deleted_map : (key : Key) → contents (delete now key) ≡ remove map key
  deleted_map key = (delete_stays_good now key holds.stands.good).1
      ∙ ap (λ (c : Contents). remove c key) (map_placed s old m map holds)

  pub deleted_bounded : (key : Key) → (delete now key).space.end ≤ home m.bounds
  deleted_bounded key =
      let stays = delete_stays_good now key holds.stands.good in
      subst (λ (bounds : Bounds). (delete now key).space.end ≤ home bounds)
      (stays.2 ∙ sym (ap (λ (n : Meta). n.bounds) (meta_held s old m map holds))) stays.0.bounded
