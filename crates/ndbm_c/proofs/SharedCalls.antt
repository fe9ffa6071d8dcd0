-- A call of a shared file that was answered, as a period of the model.
use Rattle.std.proofs.Common.{◌≡◌, ℕ, ◌/◌, ℤ, Bool, true, false, List, Option, refl, sym, ◌∙◌, ap, subst}
use Rattle.dbm_file.specs.Database.{store_of, page_state, IsAt}
use Rattle.dbm_model.specs.Bounds.{Bounds}
use Rattle.dbm_model.specs.Calls.{Call, Fault, is_changing}
use Rattle.dbm_model.specs.Pairs.{Contents}
use Rattle.dbm_model.specs.Sessions.{Disk}
use Rattle.dbm_model.specs.States.{State, Pass, Handle}
use Rattle.dbm_sharing.specs.Anew.{kept_error}
use Rattle.dbm_sharing.specs.Handles.{state_of, IsHandleAt}
use Rattle.dbm_sharing.specs.Periods as model_periods
use Rattle.dbm_sharing.specs.Periods.{Answered, Opened, IsAnswered, PeriodStep}
use Rattle.page_cache.specs.Stores.{store_below}
use Rattle.page_io.specs.Counts.{counts_end}
use Rattle.ndbm_c.proofs.Beside.{StandsAs, beside_handle}
use Rattle.ndbm_c.proofs.BesidePasses.{IsBeside, beside_step}
use Rattle.ndbm_c.proofs.HolderLemmas.{AllSound, carried_synced, carried_stands, short_passed, holds_sound, others_sound}
use Rattle.ndbm_c.proofs.Readying.{IsReadyAt, same_state, on_device, all_told, all_lacked, makes_step}
use Rattle.ndbm_c.proofs.Standing.{FileAmong, Only}
use Rattle.ndbm_c.proofs.Takings.{IsHolderSound, IsReadyIn, has_ready}
use Rattle.ndbm_c.specs.Chains.{IsToldAs}
use Rattle.ndbm_c.specs.Holders.{Holder, SharedFile, own_error, own_of, shared_of, IsSynced}
use Rattle.ndbm_c.specs.Periods.{made_of, passed, IsAsked, IsCalled, FilePeriod, Called}
use Rattle.ndbm_c.specs.declared.handle.Opened as handle
use Rattle.ndbm_calls.specs.Statuses.{status_of, IsTold}

-- ---- one period

-- From one of these maps it leaves one of those, and to each of them it is a period of the model.
pub record IsPeriodOf (sectors : ℕ) (before : SharedFile) (Among : Contents → Bounds → Type 0)
    (period : FilePeriod) (after : SharedFile) : Type 1 where
  pub map : Contents
  pub bounds : Bounds
  pub among : Among map bounds
  pub Left : Contents → Bounds → Type 0
  pub stands : FileAmong sectors after.past Left
  pub step : (left : Contents) (within : Bounds) → Left left within →
      (told : model_periods.Period) × IsToldAs period told
      × PeriodStep (sectors / 4) (shared_of before map bounds) told (shared_of after left within)
  pub synced : after.is_left ≡ false → IsSynced after.past
  pub holders : AllSound sectors after

-- the shared map of these is the one of those
pub same_shared : (file : SharedFile) (map left : Contents) (bounds within : Bounds)
    → Only map bounds left within → shared_of file left within ≡ shared_of file map bounds
same_shared file map left bounds within is =
    ap (λ (m : Contents). shared_of file m within) is.0
    ∙ ap (λ (b : Bounds). shared_of file map b) is.1

-- a database at a handle of the model, as the handle has it that keeps its error and its pass beside
pub handle_at : (pages : ℕ) (opened : handle.Opened) (h : Handle) (s : State)
    (error : Option Fault) (pass : Pass) (writable : Bool) → IsAt opened.db h
    → h.state.usable ≡ true → h.capacity ≡ pages
    → (beside_handle error pass writable h).state ≡ s
    → IsHandleAt pages s (beside_handle error pass writable h)
handle_at pages opened h s error pass writable at usable size is =
    let disk : Disk = record { pages = pages; at_start = 0; at_end = 0 } in
    let on = on_device opened.db h at usable
    (counts_end _ _ (store_below (store_of opened.db)).least) disk
    (sym size ∙ ap (λ (x : Handle). x.capacity) at.shows) refl in
    record {
      state = is;
      disk = disk;
      size = refl;
      is_on = record {
        capacity = on.capacity;
        counts = on.counts;
        limited = on.limited;
        within = record {
          few = on.within.few;
          allowed = λ key content has. on.within.allowed key content has;
        };
        light = on.light;
        few_pages = on.few_pages;
      };
    }

-- ---- a call

module _ (sectors : ℕ) (before : SharedFile) (Among : Contents → Bounds → Type 0) (who : ℕ)
    (call : Call) (stands : FileAmong sectors before.past Among)
    (synced : before.is_left ≡ false → IsSynced before.past) (all : AllSound sectors before)
    (asks : IsAsked sectors before who call) where
  abbrev holder : Holder
  holder = before.holders who

  abbrev made : Call
  made = made_of call holder.pass

  pub has : IsReadyIn (sectors / 4) Among holder asks.error asks.ready
  has = has_ready sectors before Among stands synced holder asks.error asks.ready (all who) asks.has

  pub asked : IsReadyAt (sectors / 4) has.ready_for.state asks.asked
  asked = all_lacked (sectors / 4) has.ready_for.state made asks.ready asks.tries asks.asked
      has.ready_for.usable asks.tried has.ready_for.at

  abbrev h : Handle
  h = asked.handle

  pub usable : h.state.usable ≡ true
  usable = ap (λ (t : State). t.usable) asked.state ∙ has.ready_for.usable

  pub access : is_changing call ≡ true → h.state.writable ≡ holder.writable
  access changes = ap (λ (t : State). t.writable) (asked.state ∙ sym has.ready_for.at.state)
      ∙ ap (λ (x : Handle). x.state.writable) has.ready_for.at.is_at.shows ∙ asks.access changes

  pub pass_stands : StandsAs holder.pass h.state.pass
  pass_stands = subst (λ (t : State). StandsAs holder.pass t.pass) (sym asked.state)
      has.ready_for.stands

  abbrev first : Handle
  first = beside_handle asks.error holder.pass holder.writable h

  pub begins : IsHandleAt (sectors / 4) (state_of (shared_of before has.map has.bounds) who) first
  begins = handle_at (sectors / 4) asks.asked h (state_of (shared_of before has.map has.bounds) who)
      asks.error holder.pass holder.writable asked.is_at usable asked.size
      (same_state first.state (state_of (shared_of before has.map has.bounds) who)
      (ap (λ (t : State). t.map) asked.state ∙ has.ready_for.map_is)
      (ap (λ (t : State). t.bounds) asked.state ∙ has.ready_for.bounds_are)
      (ap (λ (t : State). kept_error asks.error t.error) asked.state ∙ has.ready_for.error_is)
      refl refl usable)

-- it was answered
module _ (sectors : ℕ) (before : SharedFile) (Among : Contents → Bounds → Type 0) (who : ℕ)
    (call : Call) (status : ℤ) (bytes : List ℕ) (after : SharedFile)
    (stands : FileAmong sectors before.past Among)
    (synced : before.is_left ≡ false → IsSynced before.past) (all : AllSound sectors before)
    (is : IsCalled sectors before who call status bytes after) where
  abbrev own : Holder
  own = before.holders who

  abbrev made_so : Call
  made_so = made_of call own.pass

  abbrev from : IsReadyAt (sectors / 4)
      (has sectors before Among who call stands synced all is.asks).ready_for.state is.asks.asked
  from = asked sectors before Among who call stands synced all is.asks

  told : IsTold is.asks.asked.db is.answered.db from.handle made_so status bytes
  told = makes_step made_so status bytes is.asks.asked is.answered from.handle is.answers from.is_at

  abbrev last : Handle
  last = told.3.after

  still : last.state.usable ≡ true
  still = ap (λ (x : Handle). x.state.usable) told.3.is_at.shows ∙ is.usable

  beside : IsBeside is.asks.error own.pass own.writable from.handle last call told.0
      (passed made_so (status_of told.0) bytes own.pass)
  beside = beside_step is.asks.error own.pass own.writable from.handle last told.0 bytes told.2
      (pass_stands sectors before Among who call stands synced all is.asks) call is.asks.of_pairs
      (access sectors before Among who call stands synced all is.asks) told.3.step

  ends : IsReadyAt (sectors / 4) last.state is.last
  ends = all_told (sectors / 4) last.state is.answered is.telling is.last is.told (record {
    handle = last;
    is_at = told.3.is_at;
    state = refl;
    size = told.3.step.capacity ∙ from.size;
  })

  same_pass : passed made_so (status_of told.0) bytes own.pass ≡ passed made_so status bytes own.pass
  same_pass = ap (λ (z : ℤ). passed made_so z bytes own.pass) (sym told.1)

  ends_so : (beside_handle is.asks.error (passed made_so (status_of told.0) bytes own.pass)
      own.writable last).state ≡ state_of (shared_of after last.state.map last.state.bounds) who
  ends_so = same_state
      (beside_handle is.asks.error (passed made_so (status_of told.0) bytes own.pass)
      own.writable last).state
      (state_of (shared_of after last.state.map last.state.bounds) who) refl refl
      (ap (λ (e : Option Fault). kept_error is.asks.error e)
      (ap (λ (t : State). t.error) (sym ends.state)
      ∙ ap (λ (x : Handle). x.state.error) ends.is_at.shows)
      ∙ ap own_error (sym is.ends))
      (same_pass ∙ ap (λ (x : Holder). x.pass) (sym is.ends))
      (ap (λ (x : Holder). x.writable) (sym is.ends)) still

  abbrev map : Contents
  map = (has sectors before Among who call stands synced all is.asks).map

  abbrev bounds : Bounds
  bounds = (has sectors before Among who call stands synced all is.asks).bounds

  answered_so : IsAnswered (sectors / 4) (shared_of before map bounds) who call told.0
      (shared_of after last.state.map last.state.bounds)
  answered_so = record {
    first = beside_handle is.asks.error own.pass own.writable from.handle;
    begins = begins sectors before Among who call stands synced all is.asks;
    last = beside_handle is.asks.error (passed made_so (status_of told.0) bytes own.pass)
        own.writable last;
    step = beside.step;
    ends = ends_so;
    others = λ other beside. ap own_of (is.others other beside);
  }

  pub called : IsPeriodOf sectors before Among (Called who call status bytes) after
  called = record {
    map = map;
    bounds = bounds;
    among = (has sectors before Among who call stands synced all is.asks).among;
    Left = Only last.state.map last.state.bounds;
    stands = carried_stands sectors before is.answered after is.carried last told.3.is_at is.usable
        (told.3.step.capacity ∙ from.size);
    step = λ left within only. (
      Answered who call told.0,
      (refl, refl, told.1, told.2),
      subst (IsAnswered (sectors / 4) (shared_of before map bounds) who call told.0)
          (sym (same_shared after last.state.map left last.state.bounds within only)) answered_so,
    );
    synced = carried_synced sectors before is.answered after is.carried
        (page_state is.answered.db).writable refl is.usable synced;
    holders = others_sound sectors who before after all is.others
        (subst (IsHolderSound (sectors / 4)) (sym is.ends)
        (holds_sound (sectors / 4) last.state is.asks.error
        (passed made_so status bytes own.pass) own.writable is.last ends
        (subst (λ (p : Pass). StandsAs p last.state.pass) same_pass beside.stands)
        (short_passed call status bytes own.pass is.short (all who).short)));
  }
