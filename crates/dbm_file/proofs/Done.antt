-- What a change that was done has left, from before the look for its key.
use Rattle.std.proofs.Common.{◌≡◌, ◌∙◌, ℕ, ◌+◌, Bool, cond, ap, subst}
use Rattle.dbm_model.specs.Pairs.{Key, Pair}
use Rattle.page_model.specs.Pages.{Meta, Body}
use Rattle.page_io.specs.Store.{StoreState}
use Rattle.page_io.specs.Views.{body_at}
use Rattle.page_io.specs.declared.store.PageStore.{Ghosts}
use Rattle.page_io.proofs.Views.{same_said}
use Rattle.linear_hash.specs.Changing.{IsDeleted, IsStored}
use Rattle.linear_hash.specs.Looking.{IsSearch}
use Rattle.dbm_file.specs.Changing.{IsPut}
use Rattle.dbm_file.specs.Database.{store_of, meta_kept, page_state}
use Rattle.dbm_file.specs.Searches.{EndsBy}
use Rattle.dbm_file.specs.Trying.{IsRead}
use Rattle.dbm_file.specs.declared.database.Database.{Database}
use Rattle.dbm_file.proofs.ReadSteps.{still_meta}

module _ {S : Type 0} {s : Ghosts S} (old mid : Database S s) (read : IsRead old mid)
    (honest : s.honest (store_of old)) where
  -- what is said from there on is said from before the pages were read
  from_read : (Says : (ℕ → Body) → Meta → ℕ → Type 0)
      → Says (body_at s (store_of mid)) (meta_kept mid) (page_state mid).end
      → Says (body_at s (store_of old)) (meta_kept old) (page_state old).end
  from_read Says said =
      subst (λ (st : StoreState). Says (body_at s (store_of old)) (meta_kept old) st.end)
      read.reads.same
      (subst (λ (m : Meta). Says (body_at s (store_of old)) m (page_state mid).end)
      (still_meta s old mid read)
      (subst (λ (at : ℕ → Body). Says at (meta_kept mid) (page_state mid).end)
      (same_said s (store_of old) (store_of mid) read.reads honest) said))

  pub was_deleted : (new : S) (after : Meta) (key : Key)
      → IsDeleted (body_at s (store_of mid)) (body_at s new) (meta_kept mid) after
      (page_state mid).end (s.state new).end key
      → IsDeleted (body_at s (store_of old)) (body_at s new) (meta_kept old) after
      (page_state old).end (s.state new).end key
  was_deleted new after key =
      from_read (λ at m end. IsDeleted at (body_at s new) m after end (s.state new).end key)

  pub was_put : (new : Database S s) (pair : Pair) (there : Bool)
      → IsSearch (body_at s (store_of old)) (meta_kept old) pair.0 (EndsBy pair.0 there)
      → (meta_kept new).pairs ≡ cond there (meta_kept mid).pairs ((meta_kept mid).pairs + 1)
      → IsStored there (body_at s (store_of mid)) (body_at s (store_of new)) (meta_kept mid)
      (meta_kept new) (page_state mid).end (page_state new).end pair
      → IsPut old new pair
  was_put new pair there searched counted stored = record {
    there = there;
    searched = searched;
    counted = counted
        ∙ ap (λ (m : Meta). cond there m.pairs (m.pairs + 1)) (still_meta s old mid read);
    stored = from_read (λ at m end. IsStored there at (body_at s (store_of new)) m (meta_kept new) end
        (page_state new).end pair) stored;
  }
