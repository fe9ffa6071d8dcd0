-- How a store of many pairs ends, on a database at a handle.
use Rattle.std.proofs.Common.{◌≡◌, ◌⊎◌, inl, inr, ⊎_elim, ℕ, ◌≤◌, List, [], take, map, true, false, cond, is_some, Option, Some, Result, Err, refl, sym, ◌∙◌, ap, subst, arith}
use Rattle.std.specs.Option.{option_map}
use Rattle.dbm_model.specs.Bounds.{Bounds}
use Rattle.sect_dev.specs.Device.{LeavesOnly, MoreFaults}
use Rattle.sect_dev.specs.Moments.{weaker}
use Rattle.dbm_model.specs.Calls as model
use Rattle.dbm_model.specs.Changes.{replacing, with_pairs}
use Rattle.dbm_model.specs.Pairs.{Pair, Contents}
use Rattle.dbm_model.specs.States.{State, Handle, flagged}
use Rattle.dbm_model.specs.Steps.{with_map, Run}
use Rattle.page_model.specs.Meaning.{said_by}
use Rattle.page_model.specs.Pages.{Meta, MetaPage}
use Rattle.page_model.specs.Valid.{IsMeta, meta_buckets}
use Rattle.page_io.specs.Store.{Pages, Settled, StoreState, IsEither, file_of, page_of}
use Rattle.page_io.specs.Meaning.{FileStandsFor, ImageStandsFor}
use Rattle.page_io.specs.declared.store.PageStore.{Ghosts}
use Rattle.page_io.specs.Committing.{Holds}
use Rattle.dbm_fault.specs.Faults.{fault_of}
use Rattle.dbm_fault.specs.declared.fault.Fault.{Fault}
use Rattle.dbm_fault.specs.declared.fault.Fault.TheVariants.{Device, Broken}
use Rattle.dbm_file.specs.Held.{Held, held_by}
use Rattle.dbm_file.specs.Answers.{StandsForSome, Survives}
use Rattle.dbm_file.specs.Database.{store_of, meta_kept, page_state, handle_of, IsAt}
use Rattle.dbm_file.specs.GroupsInMemory.{handle_in, IsAlike, HasStored}
use Rattle.dbm_file.specs.Groups.{IsGroup, IsGroupRefused, GroupEnds}
use Rattle.dbm_file.specs.Passing.{pass_of}
use Rattle.dbm_file.specs.Trying.{with_fault, IsRead}
use Rattle.dbm_file.specs.declared.database.Database.{Database}
use Rattle.dbm_file.proofs.Breaks.{bounds_shown, held_shown}
use Rattle.dbm_file.proofs.Lends.{kept_error}
use Rattle.dbm_file.proofs.ReadSteps.{same_parts, at_own, kept_first, same_state, flagged_is, still_bounds, still_buckets, still_capacity, still_end, still_writable, still_usable, still_holds, still_rests, still_survives}

-- handles with equal parts
same_handles : (h k : Handle) → h.state ≡ k.state → h.faults ≡ k.faults → h.pages ≡ k.pages
    → h.capacity ≡ k.capacity → h.buckets ≡ k.buckets → h ≡ k
same_handles h k state faults pages capacity buckets =
    ap (λ (x : State). record h { state = x }) state
    ∙ ap (λ (n : ℕ). record h { state = k.state; faults = n }) faults
    ∙ ap (λ (n : ℕ). record h { state = k.state; faults = k.faults; pages = n }) pages
    ∙ ap (λ (n : ℕ). record k { capacity = n; buckets = h.buckets }) capacity
    ∙ ap (λ (n : ℕ). record k { buckets = n }) buckets

-- a refusal whose fault was then kept as the first one
pub group_flagged : {S : Type 0} (s : Ghosts S) (old db : Database S s) (h : Handle)
    (idle : (page_state db).staged ≡ []) (access : (page_state db).writable ≡ db.writable)
    (valid : IsMeta (meta_kept db)) (error : Option Fault) (fault : Fault)
    → error ≡ cond (is_some db.error) db.error (Some fault) → (pairs : List Pair)
    (r : Result ℕ Fault) → r ≡ Err fault
    → IsGroupRefused old (with_fault db fault) h pairs fault
    → GroupEnds old (kept_error s db idle access valid error) h pairs r
group_flagged s old db h idle access valid error fault flag pairs r is refused =
    subst (λ (x : Result ℕ Fault).
    GroupEnds old (kept_error s db idle access valid error) h pairs x) (sym is)
    (subst (λ (e : Option Fault).
    IsGroupRefused old (kept_error s db idle access valid e) h pairs fault) (sym flag) record {
      after = refused.after;
      count = refused.count;
      counts = refused.counts;
      ends = refused.ends;
      is_at = record {
        shows = refused.is_at.shows;
        map = λ usable. refused.is_at.map usable;
        rests = λ usable. refused.is_at.rests usable;
      };
      survives = λ usable. refused.survives usable;
    })

-- a broken database refuses them
pub broken_refuses : {S : Type 0} (s : Ghosts S) (db : Database S s) (h : Handle) → IsAt db h
    → (page_state db).usable ≡ false → (pairs : List Pair)
    → IsGroupRefused db (with_fault db Broken) h pairs Broken
broken_refuses s db h at broken pairs = record {
  after = handle_of (with_fault db Broken) h.state.map;
  count = 0;
  counts = omega (arith, ap (λ (x : Handle). x.faults) at.shows);
  ends = inl (flagged_is s db db h.state.map Broken refl refl refl refl refl
      ∙ ap (λ (x : Handle). flagged model.Broken x.state) (sym at.shows));
  is_at = at_own (with_fault db Broken) h.state.map
      (λ usable. absurd (let e = sym broken ∙ usable in cc))
      (λ usable. absurd (let e = sym broken ∙ usable in cc));
  survives = λ usable. absurd (let e = sym broken ∙ usable in cc);
}

module _ {S : Type 0} (s : Ghosts S) (old new : Database S s) (h : Handle) (at : IsAt old h)
    (honest : s.honest (store_of old)) (usable : (page_state old).usable ≡ true) where
  abbrev contents : Contents
  contents = h.state.map

  abbrev now : ℕ
  now = s.faults (store_of new)

  -- nothing was stored
  module _ (read : IsRead old new) where
    same_again : handle_of new contents ≡ record h { faults = now }
    same_again = same_handles (handle_of new contents) (record h { faults = now })
        (same_state s old new contents read.pass_is (still_bounds s old new read) read.error_is
        (still_writable s old new read) (still_usable s old new read)
        ∙ ap (λ (x : Handle). x.state) (sym at.shows))
        refl
        (still_end s old new read ∙ ap (λ (x : Handle). x.pages) (sym at.shows))
        (still_capacity s old new read ∙ ap (λ (x : Handle). x.capacity) (sym at.shows))
        (still_buckets s old new read ∙ ap (λ (x : Handle). x.buckets) (sym at.shows))

    faults_rise : h.faults ≤ now
    faults_rise = omega (
      arith,
      ap (λ (x : Handle). x.faults) at.shows,
      read.reads.stages_only.later,
    )

    is_still_at : IsAt new (handle_of new contents)
    is_still_at = at_own new contents
        (λ u. still_holds s old new contents read honest (at.map usable))
        (λ u. still_rests s old new contents read honest (at.rests usable))

    pub none_grouped : IsGroup old new h []
    none_grouped = record {
      after = handle_of new contents;
      counts = faults_rise;
      run = same_again;
      is_at = is_still_at;
      survives = λ u. still_survives s old new contents read honest (at.rests usable)
          (λ left. (left ≡ held_by h.state) ⊎ (left ≡ held_by (handle_of new contents).state))
          (inl (held_shown old h at));
    }

    -- they were refused, and nothing has changed
    pub group_refused : (pairs : List Pair) (fault : Fault)
        → IsGroupRefused old (with_fault new fault) h pairs fault
    group_refused pairs fault = record {
      after = handle_of (with_fault new fault) contents;
      count = 0;
      counts = faults_rise;
      ends = inl (flagged_is s old new contents fault read.pass_is (still_bounds s old new read)
          read.error_is (still_writable s old new read) (still_usable s old new read)
          ∙ ap (λ (x : Handle). flagged (fault_of fault) x.state) (sym at.shows));
      is_at = at_own (with_fault new fault) contents
          (λ u. still_holds s old new contents read honest (at.map usable))
          (λ u. still_rests s old new contents read honest (at.rests usable));
      survives = λ u. still_survives s old new contents read honest (at.rests usable)
          (λ left. (left ≡ held_by h.state) ⊎ (((page_state new).usable ≡ false)
          × (left ≡ held_by (with_map h.state (with_pairs contents (take 0 pairs))))))
          (inl (held_shown old h at));
    }

-- what a commit of a group leaves
pub record IsCommitted {S : Type 0} (s : Ghosts S) (old new : Database S s)
    (grouped : Pages) : Type 0 where
  pub error_is : new.error ≡ old.error
  pub pass_is : new.pass ≡ old.pass
  pub later : s.faults (store_of old) ≤ s.faults (store_of new)
  pub any_moment : LeavesOnly s.moment s.settled_since (store_of old) (store_of new)
      (IsEither (s.committed (store_of old)) grouped)

module _ {S G : Type 0} (s : Ghosts S) (g : Ghosts G) (old new : Database S s)
    (first last : Database G g) (h : Handle) (at : IsAt old h)
    (usable : (page_state old).usable ≡ true) (writable : (page_state old).writable ≡ true)
    (pairs : List Pair) (stored : HasStored first last h.state.map pairs)
    (last_usable : (page_state last).usable ≡ true)
    (end : (page_state first).end ≡ (page_state old).end)
    (meta : meta_kept first ≡ meta_kept old)
    (capacity : (page_state first).capacity ≡ (page_state old).capacity)
    (bounds : (meta_kept last).bounds ≡ (meta_kept old).bounds)
    (done : IsCommitted s old new (g.committed (store_of last))) where
  abbrev before : Contents
  before = h.state.map

  abbrev grouped : Contents
  grouped = with_pairs before pairs

  abbrev rises : ℕ
  rises = s.faults (store_of new)

  held : Holds g (store_of last) (meta_kept last) grouped
  held = stored.is_at.map last_usable

  -- each image at any moment stands for the map before or the one after
  each_either : (x : Settled)
      → IsEither (s.committed (store_of old)) (g.committed (store_of last)) x
      → ImageStandsFor x before h.state.bounds ⊎ ImageStandsFor x grouped h.state.bounds
  each_either x (inl is) = inl (subst (λ (y : Settled).
      ImageStandsFor y before h.state.bounds) (sym is)
      (subst (λ (n : Bounds). FileStandsFor (s.committed (store_of old)) before n)
      (sym (bounds_shown old h at)) (at.map usable).stands))
  each_either x (inr is) = inr (subst (λ (y : Settled).
      ImageStandsFor y grouped h.state.bounds) (sym is)
      (subst (λ (n : Bounds). FileStandsFor (g.committed (store_of last)) grouped n)
      (bounds ∙ sym (bounds_shown old h at)) held.stands))

  survives_so : (Left : Held → Type 0) → Left (held_by h.state)
      → Left (held_by (with_map h.state grouped)) → Survives old new Left
  survives_so Left left also =
      weaker s.moment s.settled_since (store_of old) (store_of new) (StandsForSome Left)
      (IsEither (s.committed (store_of old)) (g.committed (store_of last))) done.any_moment
      (λ x is. ⊎_elim (λ stands. (held_by h.state, left, stands))
      (λ stands. (held_by (with_map h.state grouped), also, stands))
      (each_either x is))

  faults_so : h.faults ≤ rises
  faults_so = omega (arith, ap (λ (x : Handle). x.faults) at.shows, done.later)

  -- the handle that the group began from is the one before
  begins_so : handle_in h rises first before ≡ record h { faults = rises }
  begins_so = same_handles (handle_in h rises first before) (record h { faults = rises }) refl refl
      (end ∙ ap (λ (x : Handle). x.pages) (sym at.shows)) refl
      (ap meta_buckets meta ∙ ap (λ (x : Handle). x.buckets) (sym at.shows))

  alike : IsAlike h first
  alike = record {
    usable = ap (λ (x : Handle). x.state.usable) at.shows ∙ usable;
    writable = ap (λ (x : Handle). x.state.writable) at.shows ∙ writable;
    bounds = ap (λ (x : Handle). x.state.bounds) at.shows ∙ sym (ap (λ (m : Meta). m.bounds) meta);
    capacity = ap (λ (x : Handle). x.capacity) at.shows ∙ sym capacity;
  }

  stored_so : Run (record h { faults = rises }) (map replacing pairs) (map (λ _. model.Stored) pairs)
      (handle_in h rises last grouped)
  stored_so = subst (λ (x : Handle). Run x (map replacing pairs) (map (λ _. model.Stored) pairs)
      (handle_in h rises last grouped)) begins_so (stored.run h rises alike)

  -- all of them are committed
  module _ (state : page_state new ≡ record (page_state old) { end = (page_state last).end })
      (meta_is : meta_kept new ≡ meta_kept last)
      (committed : s.committed (store_of new) ≡ g.committed (store_of last))
      (only : (x : Settled) → s.settles_to (store_of new) x
      → x ≡ file_of (s.committed (store_of new))) where
    new_bounds : (meta_kept new).bounds ≡ (meta_kept old).bounds
    new_bounds = ap (λ (m : Meta). m.bounds) meta_is ∙ bounds

    ends_so : handle_in h rises last grouped ≡ handle_of new grouped
    ends_so = same_handles (handle_in h rises last grouped) (handle_of new grouped)
        (ap (λ (x : Handle). record x.state { map = grouped }) at.shows
        ∙ sym (same_parts grouped _ _ _ _ _ _ _ _ _ _
        (ap (λ p. pass_of (record old { pass = p })) done.pass_is) new_bounds
        (ap (λ (e : Option Fault). option_map fault_of e) done.error_is)
        (ap (λ (st : StoreState). st.writable) state)
        (ap (λ (st : StoreState). st.usable) state)))
        refl
        (sym (ap (λ (st : StoreState). st.end) state))
        (ap (λ (x : Handle). x.capacity) at.shows ∙ sym (ap (λ (st : StoreState). st.capacity) state))
        (ap meta_buckets (sym meta_is))

    holds_so : Holds s (store_of new) (meta_kept new) grouped
    holds_so = record {
      stands = subst (λ (m : Meta). FileStandsFor (s.committed (store_of new)) grouped m.bounds)
          (sym meta_is) (subst (λ (ps : Pages). FileStandsFor ps grouped (meta_kept last).bounds)
          (sym committed) held.stands);
      meta_is = subst (λ (m : Meta).
          said_by (page_of (s.committed (store_of new))) 1 ≡ MetaPage m) (sym meta_is)
          (subst (λ (ps : Pages). said_by (page_of ps) 1 ≡ MetaPage (meta_kept last))
          (sym committed) held.meta_is);
    }

    pub all_grouped : (all : List Pair) (count : ℕ) → pairs ≡ take count all
        → IsGroup old new h (take count all)
    all_grouped all count is = subst (λ (ps : List Pair). IsGroup old new h ps) is record {
      after = handle_of new grouped;
      counts = faults_so;
      run = subst (λ (x : Handle). Run (record h { faults = rises }) (map replacing pairs)
          (map (λ _. model.Stored) pairs) x) ends_so stored_so;
      is_at = at_own new grouped (λ u. holds_so)
          (λ u x left. subst (λ (y : Settled). ImageStandsFor y grouped (meta_kept new).bounds)
          (sym (only x left)) holds_so.stands);
      survives = λ u. survives_so (λ left. (left ≡ held_by h.state)
          ⊎ (left ≡ held_by (handle_of new grouped).state)) (inl refl)
          (inr (ap (λ (x : Handle). held_by x.state) ends_so));
    }

  -- the device broke the database in their commit
  module _ (more : MoreFaults (s.faults (store_of old)) (s.faults (store_of new)))
      (broken : (page_state new).usable ≡ false)
      (same_bounds : (meta_kept new).bounds ≡ (meta_kept old).bounds)
      (same_writable : (page_state new).writable ≡ (page_state old).writable) where
    abbrev told : Database S s
    told = with_fault new Device

    state_so : (handle_of told before).state
        ≡ record (flagged model.Device h.state) { map = before; usable = false }
    state_so = same_parts before _ _ _ _ _ _ _ _ _ _
        (ap (λ p. pass_of (record old { pass = p })) done.pass_is) same_bounds
        (ap (λ (e : Option Fault). option_map fault_of (cond (is_some e) e (Some Device)))
        done.error_is ∙ kept_first old.error Device) same_writable broken
        ∙ ap (λ (x : Handle). record (flagged model.Device x.state) { map = before; usable = false })
        (sym at.shows)

    pub group_broke : (all : List Pair) (count : ℕ) → pairs ≡ take count all
        → (fault : Fault) → fault ≡ Device → IsGroupRefused old (with_fault new fault) h all fault
    group_broke all count is fault by_device = subst
        (λ (f : Fault). IsGroupRefused old (with_fault new f) h all f) (sym by_device) record {
          after = handle_of told before;
          count = count;
          counts = faults_so;
          ends = inr record {
            breaks = (
              refl,
              subst (λ (n : ℕ). MoreFaults n (s.faults (store_of new)))
                  (ap (λ (x : Handle). x.faults) (sym at.shows)) more,
              h.state,
              inl refl,
              state_so,
            );
            stored = handle_in h rises last grouped;
            run = subst (λ (ps : List Pair). Run (record h { faults = rises })
                (map replacing ps) (map (λ _. model.Stored) ps)
                (handle_in h rises last grouped)) is stored_so;
            counts = omega arith;
          };
          is_at = at_own told before (λ u. absurd (let e = sym broken ∙ u in cc))
              (λ u. absurd (let e = sym broken ∙ u in cc));
          survives = λ u. survives_so (λ left. (left ≡ held_by h.state)
              ⊎ (((page_state new).usable ≡ false)
              × (left ≡ held_by (with_map h.state (with_pairs before (take count all)))))) (inl refl)
              (inr (
                broken,
                ap (λ (ps : List Pair). held_by (with_map h.state (with_pairs before ps)))
                    is,
              ));
        }
