-- A database whose pages were read, and nothing else.
use Rattle.std.proofs.Common.{◌≡◌, ◌∙◌, true, sym, ap, subst}
use Rattle.dbm_model.specs.Pairs.{Contents}
use Rattle.dbm_model.specs.States.{Handle}
use Rattle.page_io.specs.declared.store.PageStore.{Ghosts}
use Rattle.dbm_file.specs.Held.{Held, held_by}
use Rattle.dbm_file.specs.Database.{store_of, page_state, handle_of, IsAt}
use Rattle.dbm_file.specs.Trying.{IsRead}
use Rattle.dbm_file.specs.Verifying.{StaysAt}
use Rattle.dbm_file.specs.declared.database.Database.{Database}
use Rattle.dbm_file.proofs.ReadSteps.{at_own, same_state, still_buckets, still_capacity, still_end, still_holds, still_bounds, still_rests, still_survives, still_usable, still_writable}

-- a handle that is usable shows a usable store
pub shown_usable : {S : Type 0} {s : Ghosts S} (db : Database S s) (h : Handle) → IsAt db h
    → h.state.usable ≡ true → (page_state db).usable ≡ true
shown_usable db h at usable = ap (λ (x : Handle). x.state.usable) (sym at.shows) ∙ usable

module _ {S : Type 0} (s : Ghosts S) (old new : Database S s) (read : IsRead old new) where
  -- the handle that it is at
  handle_after : (map : Contents) → handle_of new map
      ≡ record (handle_of old map) { faults = s.faults (store_of new) }
  handle_after map =
      let state = same_state s old new map read.pass_is (still_bounds s old new read) read.error_is
      (still_writable s old new read) (still_usable s old new read) in
      let pages = still_end s old new read in
      let capacity = still_capacity s old new read in
      let buckets = still_buckets s old new read in
      λ i. record {
        state = state i;
        faults = s.faults (store_of new);
        pages = pages i;
        capacity = capacity i;
        buckets = buckets i;
      }

  pub stays_at : s.honest (store_of old) → (h : Handle) → IsAt old h → StaysAt old new h
  stays_at honest h at =
      let map = h.state.map in
      let usable = still_usable s old new read in
      let own = at_own new map
      (λ is. still_holds s old new map read honest (at.map (sym usable ∙ is)))
      (λ is. still_rests s old new map read honest (at.rests (sym usable ∙ is))) in
      record {
        is_at = subst (λ (x : Handle). IsAt new x)
            (handle_after map
            ∙ ap (λ (x : Handle). record x { faults = s.faults (store_of new) }) (sym at.shows))
            own;
        survives = λ is. still_survives s old new map read honest (at.rests is)
            (λ (left : Held). left ≡ held_by h.state)
            (ap (λ (x : Handle). held_by x.state) (sym at.shows));
      }
