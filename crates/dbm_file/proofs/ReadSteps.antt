-- Calls that read pages at most, as steps.
use Rattle.std.proofs.Common.{◌≡◌, ◌⊎◌, ◌↔◌, inl, inr, ℕ, ◌+◌, ◌≤◌, Bool, true, false, cond, List, Option, Some, None, is_some, Ok, Err, IsErrOf, refl, sym, ◌∙◌, ap, subst, arith}
use Rattle.std.specs.Prelude.{IsTrue}
use Rattle.std.specs.Option.{option_map}
use Rattle.std.specs.FinMap.{len}
use Rattle.dbm_model.specs.Bounds.{Bounds}
use Rattle.sect_dev.specs.Device.{MoreFaults}
use Rattle.sect_dev.specs.Moments.{weaker}
use Rattle.dbm_model.specs.Calls as model
use Rattle.page_model.specs.Pages.{Meta, MetaPage}
use Rattle.page_model.specs.Valid.{meta_buckets}
use Rattle.dbm_model.specs.Pairs.{Contents}
use Rattle.dbm_model.specs.States.{State, Pass, Handle, first_fault, flagged}
use Rattle.dbm_model.specs.Steps.{Case, Tells, Refuses, Declines, Finds, case_of, Answers, Suffers, Fails, LacksMemory, takes_memory, growth, buckets_added, Step}
use Rattle.page_model.specs.Meaning.{said_by}
use Rattle.page_io.specs.Store.{Pages, Settled, page_of}
use Rattle.page_io.specs.Store as store
use Rattle.page_io.specs.Meaning.{FileStandsFor, ImageStandsFor}
use Rattle.page_io.specs.Views.{ReadsOnly}
use Rattle.page_io.specs.Answers.{HasDeviceCause}
use Rattle.page_io.specs.declared.page.Page.{Page}
use Rattle.page_io.specs.declared.store.PageStore.{Ghosts}
use Rattle.page_io.specs.declared.store.PageFault.{PageFault}
use Rattle.page_io.specs.declared.store.PageFault.TheVariants as page
use Rattle.seg_table.specs.MetaPages.{model_meta}
use Rattle.bucket_chain.specs.WalkAnswers.{IsWalkAnswer, IsLoadAnswer}
use Rattle.dbm_fault.specs.Faults.{fault_of, fault_from}
use Rattle.page_io.specs.Committing.{Holds}
use Rattle.dbm_file.specs.Held.{Held, held_by}
use Rattle.dbm_file.specs.Database.{store_of, meta_kept, page_state, HoldsMap, StandsAfterStop, handle_of, IsAt}
use Rattle.dbm_file.specs.Passing.{model_pass}
use Rattle.dbm_file.specs.Answers.{MayBeLeft, StandsForSome, Survives, IsStep, IsSameDatabase, IsCallEnded}
use Rattle.bucket_chain.proofs.ReadPages.{reads_none}
use Rattle.dbm_file.specs.Trying.{with_fault, IsRead}
use Rattle.dbm_fault.specs.declared.fault.Fault.{Fault}
use Rattle.dbm_fault.specs.declared.fault.Fault.TheVariants.{Memory, Device, Broken}
use Rattle.dbm_file.specs.declared.database.Database.{Database}

-- the flag of the program is that of the definitions
pub kept_first : (old : Option Fault) (fault : Fault)
    → option_map fault_of (cond (is_some old) old (Some fault))
    ≡ first_fault (option_map fault_of old) (fault_of fault)
kept_first None fault = refl
kept_first (Some earlier) fault = refl

abbrev state_with : Contents → Pass → Bounds → Option model.Fault → Bool → Bool → State
state_with map pass bounds error writable usable =
    record {
      map = map;
      bounds = bounds;
      error = error;
      pass = pass;
      writable = writable;
      usable = usable;
    }

pub same_parts : (map : Contents) (pass pass' : Pass) (bounds bounds' : Bounds)
    (error error' : Option model.Fault) (writable writable' usable usable' : Bool) → pass ≡ pass'
    → bounds ≡ bounds' → error ≡ error' → writable ≡ writable' → usable ≡ usable'
    → state_with map pass bounds error writable usable
    ≡ state_with map pass' bounds' error' writable' usable'
same_parts map pass pass' bounds bounds' error error' writable writable' usable usable' p l e w u =
    ap (λ (x : Pass). state_with map x bounds error writable usable) p
    ∙ ap (λ (n : Bounds). state_with map pass' n error writable usable) l
    ∙ ap (λ (f : Option model.Fault). state_with map pass' bounds' f writable usable) e
    ∙ ap (λ (b : Bool). state_with map pass' bounds' error' b usable) w
    ∙ ap (state_with map pass' bounds' error' writable') u

-- a database at its own map
pub at_own : {S : Type 0} {s : Ghosts S} (db : Database S s) (map : Contents)
    → HoldsMap db map → StandsAfterStop db map → IsAt db (handle_of db map)
at_own db map held rests = record { shows = refl; map = held; rests = rests }

-- the same pages stand for the same map
pub holds_as : {S : Type 0} (s : Ghosts S) (old new : S) (before after : Meta) (map : Contents)
    → s.committed new ≡ s.committed old → after ≡ before → Holds s old before map
    → Holds s new after map
holds_as s old new before after map pages meta h =
    record {
      stands = subst (λ (m : Meta). FileStandsFor (s.committed new) map m.bounds) (sym meta)
          (subst (λ (ps : Pages). FileStandsFor ps map before.bounds) (sym pages) h.stands);
      meta_is = subst (λ (m : Meta). said_by (page_of (s.committed new)) 1 ≡ MetaPage m) (sym meta)
          (subst (λ (ps : Pages). said_by (page_of ps) 1 ≡ MetaPage before) (sym pages) h.meta_is);
    }

-- a step from there is one from the handle that it is at
pub from_own : {S : Type 0} {s : Ghosts S} {old new : Database S s} {h : Handle} {call : model.Call}
    {reply : model.Reply} → IsAt old h
    → IsStep old new (handle_of old h.state.map) call reply
    → IsStep old new h call reply
from_own {S} {s} {old} {new} {h} {call} {reply} at step =
    subst (λ (x : Handle). IsStep old new x call reply) (sym at.shows) step

-- with no call of the store; `only` is its law `only_now`
pub no_read : {S : Type 0} (s : Ghosts S) (db : Database S s)
    → ((y : Settled) → s.honest (store_of db)
    → s.settled_since (store_of db) (s.moment (store_of db)).at y → s.settles_to (store_of db) y)
    → IsRead db db
no_read s db only = record {
  reads = reads_none s (store_of db) only;
  meta_is = refl;
  error_is =
      refl;
  pass_is = refl;
}

-- with another store, of which pages were read, another page, and another page of a pass
abbrev pub after_reads : {S : Type 0} (s : Ghosts S) (db : Database S s) (read : S) (page : Page)
    (ranked : List ℕ) → ReadsOnly s (store_of db) read → Database S s
after_reads s db read page ranked reads = record db {
  store = read;
  page = page;
  ranked = ranked;
  idle = ap (λ (st : store.StoreState). st.staged) reads.same ∙ db.idle;
  told = ap (λ (st : store.StoreState). st.writable) reads.same ∙ db.told;
}

-- a store that isn't broken is usable
pub not_broken : (test usable : Bool) → IsTrue test ↔ (usable ≡ false) → test ≡ false
    → usable ≡ true
not_broken test true is told = refl
not_broken test false is told = let broken = is.1 refl in cc

-- what a read leaves
module _ {S : Type 0} (s : Ghosts S) (old new : Database S s) (read : IsRead old new) where
  pub still_meta : meta_kept new ≡ meta_kept old
  still_meta = ap model_meta read.meta_is

  pub still_bounds : (meta_kept new).bounds ≡ (meta_kept old).bounds
  still_bounds = ap (λ (m : Meta). m.bounds) still_meta

  pub still_usable : (page_state new).usable ≡ (page_state old).usable
  still_usable = ap (λ (st : store.StoreState). st.usable) read.reads.same

  pub still_writable : (page_state new).writable ≡ (page_state old).writable
  still_writable = ap (λ (st : store.StoreState). st.writable) read.reads.same

  pub still_capacity : (page_state new).capacity ≡ (page_state old).capacity
  still_capacity = ap (λ (st : store.StoreState). st.capacity) read.reads.same

  pub still_buckets : meta_buckets (meta_kept new) ≡ meta_buckets (meta_kept old)
  still_buckets = ap meta_buckets still_meta

  pub still_end : (page_state new).end ≡ (page_state old).end
  still_end = ap (λ (st : store.StoreState). st.end) read.reads.same

-- a call that adds no page
pub no_more_pages : (before after : Handle) (reply : model.Reply) → after.pages ≡ before.pages
    → (before.pages ≤ after.pages) × (after.pages ≤ before.pages + growth before reply)
no_more_pages before after reply same = (omega (arith, same), omega (arith, same))

-- one that adds no bucket, with the buckets that there were
pub no_more_buckets : (before after : Handle) (reply : model.Reply) (pairs : ℕ)
    → after.buckets ≡ before.buckets → buckets_added before reply pairs ≡ 0
    → after.buckets ≡ before.buckets + buckets_added before reply pairs
no_more_buckets before after reply pairs same none = omega (arith, same, none)

module _ {S : Type 0} (s : Ghosts S) (old new : Database S s) (map : Contents)
  where
    -- the state of a database with this fault
    pub flagged_is : (fault : Fault) → new.pass ≡ old.pass → (meta_kept new).bounds ≡ (meta_kept old).bounds
        → new.error ≡ old.error → (page_state new).writable ≡ (page_state old).writable
        → (page_state new).usable ≡ (page_state old).usable
        → (handle_of (with_fault new fault) map).state
        ≡ flagged (fault_of fault) (handle_of old map).state
    flagged_is fault pass bounds error writable usable =
        same_parts map _ _ _ _ _ _ _ _ _ _ (ap model_pass pass) bounds
        (ap (λ (e : Option Fault). option_map fault_of (cond (is_some e) e (Some fault))) error
        ∙ kept_first old.error fault) writable usable

    pub same_state : new.pass ≡ old.pass → (meta_kept new).bounds ≡ (meta_kept old).bounds → new.error ≡ old.error
        → (page_state new).writable ≡ (page_state old).writable
        → (page_state new).usable ≡ (page_state old).usable
        → (handle_of new map).state ≡ (handle_of old map).state
    same_state pass bounds error writable usable =
        same_parts map _ _ _ _ _ _ _ _ _ _ (ap model_pass pass) bounds
        (ap (λ (e : Option Fault). option_map fault_of e) error) writable usable

module _ {S : Type 0} (s : Ghosts S) (old new : Database S s) (map : Contents) where
  module _ (read : IsRead old new) where
    -- the committed pages and the meta page stay
    pub still_holds : s.honest (store_of old) → Holds s (store_of old) (meta_kept old) map
        → Holds s (store_of new) (meta_kept new) map
    still_holds honest =
        holds_as s (store_of old) (store_of new) (meta_kept old) (meta_kept new) map
        (read.reads.stages_only.kept honest).committed (still_meta s old new read)

    pub still_rests : s.honest (store_of old)
        → ((x : Settled) → s.settles_to (store_of old) x
        → ImageStandsFor x map (meta_kept old).bounds) → (x : Settled)
        → s.settles_to (store_of new) x → ImageStandsFor x map (meta_kept new).bounds
    still_rests honest rests x left =
        subst (λ (n : Bounds). ImageStandsFor x map n) (sym (still_bounds s old new read))
        (rests x (read.reads.stages_only.now honest x left))

    pub still_survives : s.honest (store_of old)
        → ((x : Settled) → s.settles_to (store_of old) x
        → ImageStandsFor x map (meta_kept old).bounds) → (Left : Held → Type 0)
        → Left (held_by (handle_of old map).state)
        → Survives old new Left
    still_survives honest rests Left left =
        weaker s.moment s.settled_since (store_of old) (store_of new)
        (StandsForSome Left) (s.settles_to (store_of old))
        (read.reads.stages_only.kept honest).any_moment
        (λ x is. (held_by (handle_of old map).state, left, rests x is))

module _ {S : Type 0} (s : Ghosts S) (old new : Database S s) (map : Contents)
    (call : model.Call) (read : IsRead old new) (honest : s.honest (store_of old))
    (h : Holds s (store_of old) (meta_kept old) map)
    (rests : (x : Settled) → s.settles_to (store_of old) x
    → ImageStandsFor x map (meta_kept old).bounds) where
  abbrev before : Handle
  before = handle_of old map

  -- one that adds no page, by the rule that it falls under
  answered_step : (reply : model.Reply) → buckets_added before reply (len map) ≡ 0
      → (rule : Case) → case_of before call ≡ rule
      → Answers before.state rule reply (handle_of new map).state → IsStep old new before call reply
  answered_step reply none rule falls is = record {
    after = handle_of new map;
    step = record {
      counts = read.reads.stages_only.later;
      capacity = still_capacity s old new read;
      pages = no_more_pages before (handle_of new map) reply (still_end s old new read);
      bounded = inl (still_end s old new read);
      buckets = no_more_buckets before (handle_of new map) reply (len map)
          (still_buckets s old new read) none;
      answers = inl (subst (λ (c : Case).
          Answers before.state c reply (handle_of new map).state) (sym falls) is);
    };
    is_at = at_own new map (λ usable. still_holds s old new map read honest h)
        (λ usable. still_rests s old new map read honest rests);
    survives = λ usable. still_survives s old new map read honest rests
        (MayBeLeft before (handle_of new map) call) (inl refl);
  }

  still_state : (handle_of new map).state ≡ before.state
  still_state = same_state s old new map read.pass_is (still_bounds s old new read) read.error_is
      (still_writable s old new read) (still_usable s old new read)

  pub found_step : (reply : model.Reply) → buckets_added before reply (len map) ≡ 0
      → case_of before call ≡ Finds reply → IsStep old new before call reply
  found_step reply none falls = answered_step reply none (Finds reply) falls (refl, still_state)

  pub told_step_of : (reply : model.Reply) → buckets_added before reply (len map) ≡ 0
      → case_of before call ≡ Tells reply before.state → IsStep old new before call reply
  told_step_of reply none falls =
      answered_step reply none (Tells reply before.state) falls (refl, still_state)

  module _ (fault : Fault) where
    abbrev refused : Database S s
    refused = with_fault new fault

    refused_state : (handle_of refused map).state ≡ flagged (fault_of fault) before.state
    refused_state = flagged_is s old new map fault read.pass_is (still_bounds s old new read) read.error_is
        (still_writable s old new read) (still_usable s old new read)

    still_pages : (before.pages ≤ (page_state new).end)
        × ((page_state new).end ≤ before.pages + growth before (model.Refused (fault_of fault)))
    still_pages = no_more_pages before (handle_of refused map) (model.Refused (fault_of fault))
        (still_end s old new read)

    refused_step : (Step before call (model.Refused (fault_of fault)) (handle_of refused map))
        → IsStep old refused before call (model.Refused (fault_of fault))
    refused_step step = record {
      after = handle_of refused map;
      step = step;
      is_at = at_own refused map (λ usable. still_holds s old new map read honest h)
          (λ usable. still_rests s old new map read honest rests);
      survives = λ usable. still_survives s old new map read honest rests
          (MayBeLeft before (handle_of refused map) call) (inl refl);
    }

    told_step : (rule : Case) → case_of before call ≡ rule
        → Answers before.state rule (model.Refused (fault_of fault))
        (handle_of refused map).state
        → IsStep old refused before call (model.Refused (fault_of fault))
    told_step rule falls is = refused_step record {
      counts = read.reads.stages_only.later;
      capacity = still_capacity s old new read;
      pages = still_pages;
      bounded = inl (still_end s old new read);
      buckets = no_more_buckets before (handle_of refused map)
          (model.Refused (fault_of fault)) (len map) (still_buckets s old new read) refl;
      answers = inl (subst (λ (c : Case).
          Answers before.state c (model.Refused (fault_of fault))
          (handle_of refused map).state) (sym falls) is);
    }

    pub rejected_step : case_of before call ≡ Refuses (fault_of fault)
        → IsStep old refused before call (model.Refused (fault_of fault))
    rejected_step falls = told_step (Refuses (fault_of fault)) falls (refl, refused_state)

    pub declined_step : case_of before call ≡ Declines (fault_of fault)
        → IsStep old refused before call (model.Refused (fault_of fault))
    declined_step falls = told_step (Declines (fault_of fault)) falls (refl, refused_state)

    pub failed_step : fault ≡ Device
        → MoreFaults (s.faults (store_of old)) (s.faults (store_of new))
        → ((reply : model.Reply) (after : Handle) → Fails before reply after
        → Suffers before call (case_of before call) reply after)
        → IsStep old refused before call (model.Refused (fault_of fault))
    failed_step is more may = refused_step record {
      counts = read.reads.stages_only.later;
      capacity = still_capacity s old new read;
      pages = still_pages;
      bounded = inl (still_end s old new read);
      buckets = no_more_buckets before (handle_of refused map)
          (model.Refused (fault_of fault)) (len map) (still_buckets s old new read) refl;
      answers = inr (may (model.Refused (fault_of fault)) (handle_of refused map) (
        ap (λ (f : Fault). model.Refused (fault_of f)) is,
        more,
        refused_state ∙ ap (λ (f : Fault). flagged (fault_of f) before.state) is,
      ));
    }

    -- memory lacked
    pub lacks_step : fault ≡ Memory → takes_memory before call ≡ true
        → ((reply : model.Reply) (after : Handle) → LacksMemory before call reply after
        → Suffers before call (case_of before call) reply after)
        → IsStep old refused before call (model.Refused (fault_of fault))
    lacks_step is takes may = refused_step record {
      counts = read.reads.stages_only.later;
      capacity = still_capacity s old new read;
      pages = still_pages;
      bounded = inl (still_end s old new read);
      buckets = no_more_buckets before (handle_of refused map)
          (model.Refused (fault_of fault)) (len map) (still_buckets s old new read) refl;
      answers = inr (may (model.Refused (fault_of fault)) (handle_of refused map) (
        ap (λ (f : Fault). model.Refused (fault_of f)) is,
        refused_state ∙ ap (λ (f : Fault). flagged (fault_of f) before.state) is,
        takes,
      ));
    }

  -- where a walk through the pages failed, the device did
  pub walk_failed_step : (T : Type 0) (e : PageFault) → (page_state old).usable ≡ true
      → IsWalkAnswer {T = T} (page_state old) (Err e)
      → HasDeviceCause {T = T} (s.faults (store_of old)) (s.faults (store_of new)) (Err e)
      → (IsErrOf {T = T} (Err e) page.Damaged → ⊥)
      → ((reply : model.Reply) (after : Handle) → Fails before reply after
      → Suffers before call (case_of before call) reply after)
      → IsStep old (with_fault new (fault_from e)) before call
      (model.Refused (fault_of (fault_from e)))
  walk_failed_step T e usable answer cause whole may = device answer.only
    where
      device : (e ≡ page.Broken) ⊎ ((e ≡ page.Damaged) ⊎ (e ≡ page.Device))
          → IsStep old (with_fault new (fault_from e)) before call
          (model.Refused (fault_of (fault_from e)))
      device (inl is) = let broken = answer.broken (ap Err is) in absurd (let x = broken in cc)
      device (inr (inl is)) = absurd (whole (ap Err is))
      device (inr (inr is)) = failed_step (fault_from e) (ap fault_from is)
          (cause.fault (ap Err is)) may

  -- the same of one that reads into memory, which may lack it
  pub load_failed_step : (T : Type 0) (e : PageFault) → (page_state old).usable ≡ true
      → IsLoadAnswer {T = T} (page_state old) (Err e)
      → HasDeviceCause {T = T} (s.faults (store_of old)) (s.faults (store_of new)) (Err e)
      → (IsErrOf {T = T} (Err e) page.Damaged → ⊥)
      → (IsErrOf {T = T} (Err e) page.Memory → takes_memory before call ≡ true)
      → ((reply : model.Reply) (after : Handle) → Fails before reply after
      → Suffers before call (case_of before call) reply after)
      → ((reply : model.Reply) (after : Handle) → LacksMemory before call reply after
      → Suffers before call (case_of before call) reply after)
      → IsStep old (with_fault new (fault_from e)) before call
      (model.Refused (fault_of (fault_from e)))
  load_failed_step T e usable answer cause whole takes fails lacks = by_case answer.only
    where
      by_case : (e ≡ page.Memory) ⊎ ((e ≡ page.Broken) ⊎ ((e ≡ page.Damaged) ⊎ (e ≡ page.Device)))
          → IsStep old (with_fault new (fault_from e)) before call
          (model.Refused (fault_of (fault_from e)))
      by_case (inl is) = lacks_step (fault_from e) (ap fault_from is) (takes (ap Err is)) lacks
      by_case (inr (inl is)) = let broken = answer.broken (ap Err is) in
          absurd (let x = broken in cc)
      by_case (inr (inr (inl is))) = absurd (whole (ap Err is))
      by_case (inr (inr (inr is))) = failed_step (fault_from e) (ap fault_from is)
          (cause.fault (ap Err is)) fails

-- a walk through pages that failed says Device only where the device did, and Broken never of a
-- usable store
pub walk_more : {S T : Type 0} (s : Ghosts S) (old new : Database S s) (e : PageFault)
    → IsWalkAnswer {T = T} (page_state old) (Err e)
    → HasDeviceCause {T = T} (s.faults (store_of old)) (s.faults (store_of new)) (Err e)
    → fault_from e ≡ Device
    → MoreFaults (s.faults (store_of old)) (s.faults (store_of new))
walk_more s old new e answer cause same = by_case answer.only
  where
    by_case : (e ≡ page.Broken) ⊎ ((e ≡ page.Damaged) ⊎ (e ≡ page.Device))
        → MoreFaults (s.faults (store_of old)) (s.faults (store_of new))
    by_case (inl is) = absurd (let x = sym same ∙ ap fault_from is in cc)
    by_case (inr (inl is)) = absurd (let x = sym same ∙ ap fault_from is in cc)
    by_case (inr (inr is)) = cause.fault (ap Err is)

pub walk_sound : {S T : Type 0} (s : Ghosts S) (old : Database S s) (e : PageFault)
    → (page_state old).usable ≡ true → IsWalkAnswer {T = T} (page_state old) (Err e)
    → fault_from e ≡ Broken → ⊥
walk_sound s old e usable answer same = by_case answer.only
  where
    by_case : (e ≡ page.Broken) ⊎ ((e ≡ page.Damaged) ⊎ (e ≡ page.Device)) → ⊥
    by_case (inl is) = let broken = answer.broken (ap Err is) in absurd (let x = broken in cc)
    by_case (inr (inl is)) = absurd (let x = sym same ∙ ap fault_from is in cc)
    by_case (inr (inr is)) = absurd (let x = sym same ∙ ap fault_from is in cc)

-- the same of one that reads into memory
pub load_more : {S T : Type 0} (s : Ghosts S) (old new : Database S s) (e : PageFault)
    → IsLoadAnswer {T = T} (page_state old) (Err e)
    → HasDeviceCause {T = T} (s.faults (store_of old)) (s.faults (store_of new)) (Err e)
    → fault_from e ≡ Device
    → MoreFaults (s.faults (store_of old)) (s.faults (store_of new))
load_more s old new e answer cause same = by_case answer.only
  where
    by_case : (e ≡ page.Memory) ⊎ ((e ≡ page.Broken) ⊎ ((e ≡ page.Damaged) ⊎ (e ≡ page.Device)))
        → MoreFaults (s.faults (store_of old)) (s.faults (store_of new))
    by_case (inl is) = absurd (let x = sym same ∙ ap fault_from is in cc)
    by_case (inr (inl is)) = absurd (let x = sym same ∙ ap fault_from is in cc)
    by_case (inr (inr (inl is))) = absurd (let x = sym same ∙ ap fault_from is in cc)
    by_case (inr (inr (inr is))) = cause.fault (ap Err is)

pub load_sound : {S T : Type 0} (s : Ghosts S) (old : Database S s) (e : PageFault)
    → (page_state old).usable ≡ true → IsLoadAnswer {T = T} (page_state old) (Err e)
    → fault_from e ≡ Broken → ⊥
load_sound s old e usable answer same = by_case answer.only
  where
    by_case : (e ≡ page.Memory) ⊎ ((e ≡ page.Broken) ⊎ ((e ≡ page.Damaged) ⊎ (e ≡ page.Device)))
        → ⊥
    by_case (inl is) = absurd (let x = sym same ∙ ap fault_from is in cc)
    by_case (inr (inl is)) = let broken = answer.broken (ap Err is) in
        absurd (let x = broken in cc)
    by_case (inr (inr (inl is))) = absurd (let x = sym same ∙ ap fault_from is in cc)
    by_case (inr (inr (inr is))) = absurd (let x = sym same ∙ ap fault_from is in cc)

-- what a broken database answers
pub broken_step : {S : Type 0} (s : Ghosts S) (old : Database S s) (map : Contents)
    (call : model.Call) → (page_state old).usable ≡ false
    → case_of (handle_of old map) call ≡ Refuses model.Broken
    → IsStep old (with_fault old Broken) (handle_of old map) call
    (model.Refused model.Broken)
broken_step s old map call broken falls = record {
  after = handle_of (with_fault old Broken) map;
  step = record {
    counts = omega arith;
    capacity = refl;
    pages = no_more_pages (handle_of old map) (handle_of (with_fault old Broken) map)
        (model.Refused model.Broken) refl;
    bounded = inl refl;
    buckets = no_more_buckets (handle_of old map)
        (handle_of (with_fault old Broken) map) (model.Refused model.Broken) (len map)
        refl refl;
    answers = inl (subst (λ (c : Case).
        Answers (handle_of old map).state c (model.Refused model.Broken)
        (handle_of (with_fault old Broken) map).state) (sym falls)
        (refl, flagged_is s old old map Broken refl refl refl refl refl));
  };
  is_at = at_own (with_fault old Broken) map (λ usable. absurd (let e = usable in cc))
      (λ usable. absurd (let e = usable in cc));
  survives = λ usable. absurd (let e = usable in cc);
}

module _ {S : Type 0} (s : Ghosts S) (old new : Database S s) (read : IsRead old new)
    (usable : (page_state old).usable ≡ true) where
  read_goes : IsSameDatabase old new
  read_goes = record {
    honesty = read.reads.stages_only.honesty;
    later = read.reads.stages_only.later;
    bounds = still_bounds s old new read;
    capacity = still_capacity s old new read;
    writable = still_writable s old new read;
    base = ap (λ (st : store.StoreState). st.base) read.reads.same;
    still = λ broken. absurd (let e = broken in cc);
    reading = λ honest access. (read.reads.stages_only.kept honest).still;
  }

  pub read_keeps : {T : Type 0} (value : T) → IsCallEnded old new (Ok value)
  read_keeps value = record {
    goes = read_goes;
    fault = λ is. absurd (let e = is in cc);
    no_error = ap (λ (e : Option Fault). option_map fault_of e) read.error_is;
    error = tt;
    refused = tt;
    kept = λ honest. tt;
    breaks = inl (still_usable s old new read);
    broken = (λ is. absurd (let e = is in cc), λ broken. absurd (let e = broken in cc));
  }

  pub refused_keeps : (T : Type 0) (fault : Fault)
      → (fault ≡ Device → MoreFaults (s.faults (store_of old)) (s.faults (store_of new)))
      → (fault ≡ Broken → ⊥)
      → IsCallEnded {T = T} old (with_fault new fault) (Err fault)
  refused_keeps T fault more sound = record {
    goes = record {
      honesty = read_goes.honesty;
      later = read_goes.later;
      bounds = read_goes.bounds;
      capacity = read_goes.capacity;
      writable = read_goes.writable;
      base = read_goes.base;
      still = λ broken. read_goes.still broken;
      reading = λ honest access. read_goes.reading honest access;
    };
    fault = λ is. more (let e = is in cc);
    no_error = tt;
    error = ap (λ (e : Option Fault). option_map fault_of (cond (is_some e) e (Some fault)))
        read.error_is ∙ kept_first old.error fault;
    refused = (
      still_meta s old new read,
      ap (λ (st : store.StoreState). st.end) read.reads.same,
      ap model_pass read.pass_is,
    );
    kept = λ honest usable_now.
        let left = read.reads.stages_only.kept honest in
        record { committed = left.committed; still = left.still };
    breaks = inl (still_usable s old new read);
    broken = (λ is. absurd (sound (let e = is in cc)), λ broken. absurd (let e = broken in cc));
  }

pub broken_keeps : {S : Type 0} (T : Type 0) (s : Ghosts S) (old : Database S s)
    → (page_state old).usable ≡ false → IsCallEnded {T = T} old (with_fault old Broken) (Err Broken)
broken_keeps T s old broken = record {
  goes = record {
    honesty = (λ h. h, λ h. h);
    later = omega arith;
    bounds = refl;
    capacity = refl;
    writable = refl;
    base = refl;
    still = λ is. refl;
    reading = λ honest access. refl;
  };
  fault = λ is. absurd (let e = is in cc);
  no_error = tt;
  error = kept_first old.error Broken;
  refused = (refl, refl, refl);
  kept = λ honest usable. record { committed = refl; still = refl };
  breaks = inl refl;
  broken = (λ is. broken, λ is. refl);
}
