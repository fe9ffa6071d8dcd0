-- How a group over a store that was lent to it ends for the database.
use Rattle.std.proofs.Common.{◌≡◌, ℕ, List, take, true, Bool, Result, Ok, Err, refl, sym, ◌∙◌, ap, subst}
use Rattle.std.specs.Prelude.{IfErr}
use Rattle.dbm_model.specs.Pairs.{Pair}
use Rattle.dbm_model.specs.States.{Handle}
use Rattle.page_model.specs.Pages.{Meta}
use Rattle.page_io.specs.Store.{Settled, StoreState, file_of}
use Rattle.page_io.specs.Views.{ReadsOnly}
use Rattle.page_io.specs.declared.store.PageStore.{Ghosts}
use Rattle.page_io.specs.declared.store.PageFault.{PageFault}
use Rattle.page_group.specs.Ending.{IsCommit}
use Rattle.seg_table.specs.MetaPages.{model_meta}
use Rattle.seg_table.specs.declared.meta.Meta as kept
use Rattle.dbm_fault.specs.Faults.{fault_from}
use Rattle.dbm_fault.specs.declared.fault.Fault.{Fault}
use Rattle.dbm_file.specs.Answers.{IsSameDatabase}
use Rattle.dbm_file.specs.Database.{store_of, meta_kept, page_state, IsAt}
use Rattle.dbm_file.specs.GroupsInMemory.{IsBegun, BeginsAt, HasStored, StoresMany, HasLent, EndsLent}
use Rattle.dbm_file.specs.Trying.{IsRead}
use Rattle.dbm_file.specs.declared.database.Database.{Database}
use Rattle.dbm_file.proofs.GroupEnds.{IsCommitted, none_grouped, group_refused, all_grouped, group_broke}

-- what is said of an error of the result
at_err : {T E : Type 0} (P : E → Type 0) (result : Result T E) (e : E) → result ≡ Err e
    → IfErr result P → P e
at_err P result e is p = subst (λ r. IfErr r P) is p

module _ {S : Type 0} (s : Ghosts S) (first left : S) (before : kept.Meta) where
  -- what holds of the two stores holds of those of the database
  lent_to : (P : S → S → Type 0) (after : kept.Meta) (old new : Database S s)
      → HasLent old new first left before after → P first left → P (store_of old) (store_of new)
  lent_to P after old new lends p =
      subst (λ (x : S). P x (store_of new)) (sym lends.was)
      (subst (λ (x : S). P first x) (sym lends.is) p)

  module _ (reads : ReadsOnly s first left) where
    was_read : (old new : Database S s) → HasLent old new first left before before → IsRead old new
    was_read old new lends = record {
      reads = lent_to (ReadsOnly s) before old new lends reads;
      meta_is = lends.meta_is ∙ sym lends.meta_was;
      error_is = lends.error_is;
      pass_is = lends.pass_is;
    }

    -- none was stored
    pub lent_none : (pairs : List Pair) → EndsLent s first left before before pairs (Ok 0)
    lent_none pairs old new lends usable writable honest h at =
        none_grouped s old new h at honest usable (was_read old new lends)

    -- they were refused
    pub lent_refused : (pairs : List Pair) (fault : Fault)
        → EndsLent s first left before before pairs (Err fault)
    lent_refused pairs fault old new lends usable writable honest h at =
        group_refused s old new h at honest usable (was_read old new lends) pairs fault

  module _ {G : Type 0} (g : Ghosts G) (group last : Database G g)
      (begun : IsBegun s first (model_meta before) group)
      (at_first : BeginsAt s first (model_meta before) group)
      (goes : IsSameDatabase group last) (last_usable : (page_state last).usable ≡ true)
      (pairs : List Pair) (count : ℕ) (many : StoresMany group last (take count pairs))
      (done : Result Bool PageFault)
      (commits : IsCommit s first left (g.committed (store_of last)) (page_state last).end done) where
    module _ (after : kept.Meta) (old new : Database S s)
        (lends : HasLent old new first left before after) (usable : (page_state old).usable ≡ true)
        (honest : s.honest (store_of old)) (h : Handle) (at : IsAt old h) where
      was : meta_kept old ≡ model_meta before
      was = ap model_meta lends.meta_was

      begun_so : IsBegun s (store_of old) (model_meta before) group
      begun_so = subst (λ (x : S). IsBegun s x (model_meta before) group) (sym lends.was) begun

      commits_so : IsCommit s (store_of old) (store_of new) (g.committed (store_of last))
          (page_state last).end done
      commits_so = lent_to (λ x y. IsCommit s x y (g.committed (store_of last))
          (page_state last).end done) after old new lends commits

      stored_so : HasStored group last h.state.map (take count pairs)
      stored_so = many (begun_so.honesty.1 honest) h.state.map
          (at_first old lends.was was usable honest h at)

      bounds_so : (meta_kept last).bounds ≡ (meta_kept old).bounds
      bounds_so = goes.bounds ∙ ap (λ (m : Meta). m.bounds) (begun_so.meta_is ∙ sym was)

      is_committed : IsCommitted s old new (g.committed (store_of last))
      is_committed = record {
        error_is = lends.error_is;
        pass_is = lends.pass_is;
        later = commits_so.cause.later;
        any_moment = commits_so.any_moment honest;
      }

    -- all that the group took were stored
    pub lent_done : ((store : S) (y : Settled) → s.honest store → (s.state store).usable ≡ true
        → (s.state store).writable ≡ true → s.settles_to store y → y ≡ file_of (s.committed store))
        → done ≡ Ok true → EndsLent s first left before last.meta pairs (Ok count)
    lent_done only is old new lends usable writable honest h at =
        let all = commits_so last.meta old new lends usable honest h at in
        let begins = begun_so last.meta old new lends usable honest h at in
        let state = all.done is in
        all_grouped s g old new group last h at usable writable (take count pairs)
        (stored_so last.meta old new lends usable honest h at) last_usable begins.end
        (begins.meta_is ∙ sym (ap model_meta lends.meta_was)) begins.capacity
        (bounds_so last.meta old new lends usable honest h at)
        (is_committed last.meta old new lends usable honest h at) state
        (ap model_meta lends.meta_is) (all.committed honest is)
        (λ y settles. only (store_of new) y (all.honesty.1 honest)
        (ap (λ (st : StoreState). st.usable) state ∙ usable)
        (ap (λ (st : StoreState). st.writable) state ∙ writable) settles)
        pairs count refl

    -- the device broke the store in their commit
    pub lent_broke : (e : PageFault) → done ≡ Err e
        → EndsLent s first left before before pairs (Err (fault_from e))
    lent_broke e is old new lends usable writable honest h at =
        let all = commits_so before old new lends usable honest h at in
        let begins = begun_so before old new lends usable honest h at in
        let broke = at_err _ done e is all.broke in
        group_broke s g old new group last h at usable writable (take count pairs)
        (stored_so before old new lends usable honest h at) last_usable begins.end
        (begins.meta_is ∙ sym (ap model_meta lends.meta_was)) begins.capacity
        (bounds_so before old new lends usable honest h at)
        (is_committed before old new lends usable honest h at)
        (all.cause.fault (is ∙ ap Err broke.0))
        (ap (λ (st : StoreState). st.usable) broke.1)
        (ap (λ (m : kept.Meta). (model_meta m).bounds) (lends.meta_is ∙ sym lends.meta_was))
        (ap (λ (st : StoreState). st.writable) broke.1)
        pairs count refl (fault_from e) (ap fault_from broke.0)
