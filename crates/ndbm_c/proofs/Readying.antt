-- A database of a handle within a period, and the handle of the model that it is at.
use Rattle.std.proofs.Common.{◌≡◌, ℕ, ◌+◌, ◌≤◌, ℤ, Bool, true, List, [], length, Option, Some, None, refl, sym, ◌∙◌, ap, subst, arith}
use Rattle.dbm_file.proofs.OpenedFiles.{counts_pairs, few_pages, within_at}
use Rattle.dbm_file.proofs.ReadSteps.{at_own}
use Rattle.dbm_file.specs.Database.{store_of, meta_kept, page_state, error_of, handle_of, IsAt}
use Rattle.dbm_file.specs.Passing.{pass_of}
use Rattle.dbm_file.specs.declared.database.Database.{Database}
use Rattle.dbm_model.proofs.CaseLemmas.{map_of_usable, bounds_of_usable}
use Rattle.dbm_model.proofs.PassSteps.{refusal_keeps_pass}
use Rattle.dbm_model.proofs.StayLemmas.{error_cleared, first_kept, settings_stay}
use Rattle.dbm_model.specs.Bounds.{Bounds}
use Rattle.dbm_model.specs.Calls as calls
use Rattle.dbm_model.specs.Calls.{Call, Store, Fetch, Delete, First, Next, Error, Clear, Upgrade, Reply, Number, Refused, Fault}
use Rattle.dbm_model.specs.Pairs.{Contents}
use Rattle.dbm_model.specs.Sessions.{Disk, IsOn}
use Rattle.dbm_model.specs.States.{State, Pass, NotBegun, Begun, Behind, Handle, first_fault}
use Rattle.dbm_model.specs.Steps.{Step}
use Rattle.dbm_sharing.proofs.PeriodLemmas.{unacknowledged}
use Rattle.page_io.specs.Committing.{Holds}
use Rattle.page_io.specs.Meaning.{ImageStandsFor}
use Rattle.page_io.specs.Store.{Settled}
use Rattle.page_io.specs.declared.store.PageStore.{Ghosts}
use Rattle.page_model.specs.Pages.{Meta}
use Rattle.ndbm_c.proofs.Beside.{StandsAs}
use Rattle.ndbm_c.proofs.Standing.{through}
use Rattle.ndbm_c.specs.Periods.{Through, TellsDatabase, Makes, Forgets, Lacks, TakesPass}
use Rattle.ndbm_c.specs.declared.handle.Opened.{Opened}
use Rattle.ndbm_calls.specs.Statuses.{refusal_of, status_of, IsTold}

-- ---- states

pub same_state : (a b : State) → a.map ≡ b.map → a.bounds ≡ b.bounds → a.error ≡ b.error
    → a.pass ≡ b.pass → a.writable ≡ b.writable → a.usable ≡ b.usable → a ≡ b
same_state a b m n e p w u =
    ap (λ (x : Contents). record a { map = x }) m
    ∙ ap (λ (x : Bounds). record a { map = b.map; bounds = x }) n
    ∙ ap (λ (x : Option Fault). record a { map = b.map; bounds = b.bounds; error = x }) e
    ∙ ap (λ (x : Pass). record b { pass = x; writable = a.writable; usable = a.usable }) p
    ∙ ap (λ (x : Bool). record b { writable = x; usable = a.usable }) w
    ∙ ap (λ (x : Bool). record b { usable = x }) u

-- ---- any database

module _ {S : Type 0} {s : Ghosts S} where
  -- over the same store, with the same meta page, it holds the same map
  pub stays_at : (old new : Database S s) (h : Handle) → store_of new ≡ store_of old
      → meta_kept new ≡ meta_kept old → IsAt old h → IsAt new (handle_of new h.state.map)
  stays_at old new h store meta at = at_own new h.state.map
      (subst (λ (x : S). (s.state x).usable ≡ true → Holds s x (meta_kept new) h.state.map) (sym store)
      (subst (λ (m : Meta). (s.state (store_of old)).usable ≡ true
      → Holds s (store_of old) m h.state.map) (sym meta) at.map))
      (subst (λ (x : S). (s.state x).usable ≡ true → (y : Settled) → s.settles_to x y
      → ImageStandsFor y h.state.map (meta_kept new).bounds) (sym store)
      (subst (λ (m : Meta). (s.state (store_of old)).usable ≡ true → (y : Settled)
      → s.settles_to (store_of old) y → ImageStandsFor y h.state.map m.bounds) (sym meta) at.rests))

  pub stays_so : (old new : Database S s) (h : Handle) (error : Option Fault) (pass : Pass)
      → store_of new ≡ store_of old → meta_kept new ≡ meta_kept old → error_of new ≡ error
      → pass_of new ≡ pass → IsAt old h
      → (handle_of new h.state.map).state ≡ record h.state { error = error; pass = pass }
  stays_so old new h error pass store meta is_error is_pass at =
      same_state (handle_of new h.state.map).state (record h.state { error = error; pass = pass })
      refl
      (ap (λ (m : Meta). m.bounds) meta ∙ sym (ap (λ (x : Handle). x.state.bounds) at.shows))
      is_error is_pass
      (ap (λ (x : S). (s.state x).writable) store
      ∙ sym (ap (λ (x : Handle). x.state.writable) at.shows))
      (ap (λ (x : S). (s.state x).usable) store
      ∙ sym (ap (λ (x : Handle). x.state.usable) at.shows))

  pub stays_size : (old new : Database S s) (h : Handle) → store_of new ≡ store_of old
      → IsAt old h → (handle_of new h.state.map).capacity ≡ h.capacity
  stays_size old new h store at = ap (λ (x : S). (s.state x).capacity) store
      ∙ sym (ap (λ (x : Handle). x.capacity) at.shows)

  -- a usable one is at a handle on its device
  pub on_device : (db : Database S s) (h : Handle) → IsAt db h → h.state.usable ≡ true
      → length (s.committed (store_of db)) + 1 ≡ (page_state db).end → (disk : Disk)
      → disk.pages ≡ (page_state db).capacity → disk.at_start ≡ 0 → IsOn disk h
  on_device db h at usable ends disk size none =
      let counted = counts_pairs s db h at usable in
      record {
        capacity = ap (λ (x : Handle). x.capacity) at.shows ∙ sym size;
        counts = omega (arith, none);
        limited = (
          omega (arith, db.valid.limited.0, counted.1),
          omega (arith, db.valid.limited.1, counted.1),
        );
        within = within_at s db h at usable;
        light = omega (
          arith,
          db.valid.few_pairs.1,
          counted.0,
          ap (λ (x : Handle). x.buckets) at.shows,
        );
        few_pages = omega (
          arith,
          few_pages s db h at usable ends,
          ap (λ (x : Handle). x.pages) at.shows,
        );
      }

-- ---- one of a handle

-- it is at this state, on a device of so many pages
pub record IsReadyAt (pages : ℕ) (s : State) (opened : Opened) : Type 0 where
  pub handle : Handle
  pub is_at : IsAt opened.db handle
  pub state : handle.state ≡ s
  pub size : handle.capacity ≡ pages

-- what it was told changes nothing
pub told_ready : (pages : ℕ) (s : State) (old new : Opened) → TellsDatabase old new
    → IsReadyAt pages s old → IsReadyAt pages s new
told_ready pages s old new (told, is_true, tells) has =
    let stays = tells.stays tt has.handle has.is_at in record {
      handle = _;
      is_at = stays.is_at;
      state = has.state;
      size = has.size;
    }

pub all_told : (pages : ℕ) (s : State) (old : Opened) (steps : List Opened) (new : Opened)
    → Through TellsDatabase old steps new → IsReadyAt pages s old → IsReadyAt pages s new
all_told pages s old steps new goes has =
    through (IsReadyAt pages s) TellsDatabase (told_ready pages s) old steps new goes has

-- the pass of the handle goes on
pub pass_ready : (pages : ℕ) (s : State) (pass : Pass) (old new : Opened) → s.pass ≡ NotBegun
    → ((key : List ℕ) → pass ≡ Behind key → length key ≤ 2026) → TakesPass pass old new
    → IsReadyAt pages s old → (own : Pass) × StandsAs pass own
    × IsReadyAt pages (record s { pass = own }) new
pass_ready pages s NotBegun old new none short takes has = (
  NotBegun,
  refl,
  subst (IsReadyAt pages (record s { pass = NotBegun })) (sym takes)
      (subst (λ (t : State). IsReadyAt pages t old)
      (ap (λ (p : Pass). record s { pass = p }) none) has),
)
pass_ready pages s Begun old new none short takes has = (
  s.pass,
  tt,
  subst (IsReadyAt pages s) (sym takes) has,
)
pass_ready pages s (Behind key) old new none short takes has =
    let h = has.handle in
    let at = has.is_at in
    let behind = takes.behind (short key refl) in
    let error = takes.still.2 ∙ sym (ap (λ (x : Handle). x.state.error) at.shows) in (
      Behind key,
      refl,
      record {
        handle = handle_of new.db h.state.map;
        is_at = stays_at old.db new.db h takes.still.0 takes.still.1 at;
        state = stays_so old.db new.db h h.state.error (Behind key) takes.still.0 takes.still.1
            error behind at ∙ ap (λ (t : State). record t { pass = Behind key }) has.state;
        size = stays_size old.db new.db h takes.still.0 at ∙ has.size;
      },
    )

-- ---- a call that lacked a sector

-- no other reply is told so
device_told : (reply : Reply) → refusal_of calls.Device ≡ status_of reply
    → reply ≡ Refused calls.Device
device_told (Refused calls.Device) is = refl
device_told other is = absurd (let x = is in cc)

-- a call is a step of the model from where its database is
pub makes_step : (call : Call) (status : ℤ) (bytes : List ℕ) (old new : Opened) (h : Handle)
    → Makes call status bytes old new → IsAt old.db h → IsTold old.db new.db h call status bytes
makes_step Upgrade status bytes old new h is at =
    subst (λ (b : List ℕ). IsTold old.db new.db h Upgrade status b) (sym is.1) (is.0.step tt h at)
makes_step (Store key content mode) status bytes old new h is at = is.answered.step tt h at
makes_step (Fetch key) status bytes old new h is at = is.answered.step tt h at
makes_step (Delete key) status bytes old new h is at = is.answered.step tt h at
makes_step First status bytes old new h is at = is.answered.step tt h at
makes_step Next status bytes old new h is at = is.answered.step tt h at
makes_step Error status bytes old new h is at = is.answered.step tt h at
makes_step Clear status bytes old new h is at = is.answered.step tt h at

-- a refusal that left the database usable sets its error
refused_state : (h after : Handle) (call : Call) (reply : Reply) (fault : Fault)
    → reply ≡ Refused fault → Step h call reply after → after.state.usable ≡ true
    → h.state.usable ≡ true
    → after.state ≡ record h.state { error = first_fault h.state.error fault }
refused_state h after call reply fault is step usable was =
    let refused : Step h call (Refused fault) after =
    subst (λ (r : Reply). Step h call r after) is step in
    let still = unacknowledged h.state.map h.state.bounds call (Refused fault) refl in
    same_state after.state (record h.state { error = first_fault h.state.error fault })
    (map_of_usable h after call (Refused fault) refused usable ∙ still.0)
    (bounds_of_usable h after call (Refused fault) refused usable ∙ still.1)
    (first_kept h after call fault refused) (refusal_keeps_pass h after call fault refused)
    (settings_stay h after call (Refused fault) refused).1 (usable ∙ sym was)

-- the error of the refusal is forgotten
forgotten : (pages : ℕ) (s : State) (error : Option Fault) (fault : Fault) (told new : Opened)
    → s.error ≡ error → Forgets error told new
    → IsReadyAt pages (record s { error = first_fault s.error fault }) told
    → IsReadyAt pages s new
forgotten pages s None fault told new is clears has =
    let step = clears.step tt has.handle has.is_at in
    let after = (error_cleared has.handle step.after (Number 0) step.step).1 in record {
      handle = step.after;
      is_at = step.is_at;
      state = after ∙ ap (λ (t : State). record t { error = None }) has.state
          ∙ ap (λ (e : Option Fault). record s { error = e }) (sym is);
      size = step.step.capacity ∙ has.size;
    }
forgotten pages s (Some earlier) fault told new is same has =
    subst (IsReadyAt pages s) (sym same)
    (subst (λ (e : Option Fault). IsReadyAt pages (record s { error = e }) told)
    (ap (λ (e : Option Fault). first_fault e fault) is ∙ sym is) has)

-- it is at its state again
pub lacks_ready : (pages : ℕ) (s : State) (call : Call) (old new : Opened) → s.usable ≡ true
    → Lacks call old new → IsReadyAt pages s old → IsReadyAt pages s new
lacks_ready pages s call old new usable is has =
    let h = has.handle in
    let told = makes_step call (refusal_of calls.Device) [] old is.refused h is.lacks has.is_at in
    let step = told.3 in
    let after = step.after in
    let still = ap (λ (x : Handle). x.state.usable) step.is_at.shows ∙ is.usable in
    let flagged = refused_state h after call told.0 calls.Device (device_told told.0 told.1)
    step.step still (ap (λ (t : State). t.usable) has.state ∙ usable) in
    let refused : IsReadyAt pages (record s { error = first_fault s.error calls.Device }) is.refused =
    record {
      handle = after;
      is_at = step.is_at;
      state = flagged
          ∙ ap (λ (t : State). record t { error = first_fault t.error calls.Device }) has.state;
      size = step.step.capacity ∙ has.size;
    } in
    forgotten pages s (error_of old.db) calls.Device is.told new
    (sym (ap (λ (t : State). t.error) has.state) ∙ ap (λ (x : Handle). x.state.error) has.is_at.shows)
    is.forgets
    (all_told pages (record s { error = first_fault s.error calls.Device }) is.refused is.telling
    is.told is.tells refused)

pub all_lacked : (pages : ℕ) (s : State) (call : Call) (old : Opened) (steps : List Opened)
    (new : Opened) → s.usable ≡ true → Through (Lacks call) old steps new
    → IsReadyAt pages s old → IsReadyAt pages s new
all_lacked pages s call old steps new usable goes has =
    through (IsReadyAt pages s) (Lacks call)
    (λ before after lacks is. lacks_ready pages s call before after usable lacks is)
    old steps new goes has
