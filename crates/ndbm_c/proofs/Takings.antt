-- How a handle has the database of the file at the beginning of a period.
use Rattle.std.proofs.Common.{◌≡◌, inl, inr, ℕ, ◌/◌, ◌≤◌, Bool, true, false, cond, List, length, Option, Some, None, refl, sym, ◌∙◌, ap, subst}
use Rattle.dbm_file.specs.Database.{page_state, IsAt}
use Rattle.dbm_file.specs.Opened.{device_below}
use Rattle.dbm_model.specs.Bounds.{Bounds}
use Rattle.dbm_model.specs.Calls.{Fault}
use Rattle.dbm_model.specs.Pairs.{Contents}
use Rattle.dbm_model.specs.States.{State, Pass, Behind, Handle, fresh}
use Rattle.dbm_sharing.specs.Anew.{kept_error}
use Rattle.file_opening.specs.Opening.{writes, AllStand, IsOpened}
use Rattle.file_opening.specs.declared.open_how.Access.TheVariants.{ReadOnly, ReadWrite}
use Rattle.file_opening.specs.declared.open_how.OpenHow.{OpenHow}
use Rattle.listed_dev.specs.Listed.{history}
use Rattle.listed_dev.specs.contracts.listed_dev.ListedDevSectorDev.TheImpl.{ghosts as served}
use Rattle.listed_dev.specs.declared.listed_dev.ListedDev.{ListedDev}
use Rattle.page_io.proofs.Meanings.{one_meaning}
use Rattle.page_io.specs.Meaning.{ImageStandsFor}
use Rattle.redo_area.specs.File.{settled}
use Rattle.sect_dev.specs.Device.{IsStable}
use Rattle.sect_dev.specs.History.{content_after, IsCandidate, content_is_candidate}
use Rattle.sect_dev.specs.declared.past.Event.{Event}
use Rattle.ndbm_c.proofs.Beside.{StandsAs}
use Rattle.ndbm_c.proofs.Readying.{IsReadyAt, all_told, pass_ready}
use Rattle.ndbm_c.proofs.Standing.{FileAmong, same_stands, same_synced, just_synced, all_stable, one_map, through, never_empty, DeviceStands, tried_stands}
use Rattle.ndbm_c.specs.Holders.{Holder, SharedFile, error_in, own_error, FileStands, IsSynced}
use Rattle.ndbm_c.specs.Opening.{how_of}
use Rattle.ndbm_c.specs.Periods.{TriesToOpen, found, GoesOn, BeginsAnew, HasDatabase}
use Rattle.ndbm_c.specs.declared.handle.Opened.{Opened}
use Rattle.ndbm_c.specs.declared.how.How.{How}

-- the key of a pass is as long as one may be
abbrev pub IsShortPass : Pass → Type 0
IsShortPass pass = (key : List ℕ) → pass ≡ Behind key → length key ≤ 2026

-- a database that a handle has is at some handle of the model, whose pass is that of the handle
pub record IsHeldAt (pages : ℕ) (pass : Pass) (opened : Opened) : Type 0 where
  pub handle : Handle
  pub is_at : IsAt opened.db handle
  pub stands : StandsAs pass handle.state.pass
  pub size : handle.capacity ≡ pages

pub record IsHolderSound (pages : ℕ) (holder : Holder) : Type 0 where
  pub short : IsShortPass holder.pass
  pub held : (opened : Opened) → holder.held ≡ Some opened → IsHeldAt pages holder.pass opened

-- the database at the map, for this handle
pub record IsReadyFor (pages : ℕ) (map : Contents) (bounds : Bounds) (holder : Holder)
    (error : Option Fault) (ready : Opened) : Type 0 where
  pub state : State
  pub at : IsReadyAt pages state ready
  pub map_is : state.map ≡ map
  pub bounds_are : state.bounds ≡ bounds
  pub usable : state.usable ≡ true
  pub stands : StandsAs holder.pass state.pass
  pub error_is : kept_error error state.error ≡ own_error holder

-- so it is at one of these maps
pub record IsReadyIn (pages : ℕ) (Among : Contents → Bounds → Type 0) (holder : Holder)
    (error : Option Fault) (ready : Opened) : Type 0 where
  pub map : Contents
  pub bounds : Bounds
  pub among : Among map bounds
  pub ready_for : IsReadyFor pages map bounds holder error ready

pub kept_none : (error : Option Fault) → kept_error error None ≡ error
kept_none None = refl
kept_none (Some earlier) = refl

-- what a stop may leave of the device of a usable database stands for its map
pub images_stand : (sectors : ℕ) (opened : Opened) (h : Handle) → IsAt opened.db h
    → (page_state opened.db).usable ≡ true → h.capacity ≡ sectors / 4
    → FileStands sectors (history (device_below opened.db)) h.state.map h.state.bounds
images_stand sectors opened h at usable size image is =
    subst (λ (n : ℕ). ImageStandsFor (settled n image) h.state.map h.state.bounds)
    (sym (ap (λ (x : Handle). x.capacity) at.shows) ∙ size)
    (subst (λ (b : Bounds). ImageStandsFor (settled (page_state opened.db).capacity image)
    h.state.map b) (sym (ap (λ (x : Handle). x.state.bounds) at.shows))
    (at.rests usable (settled (page_state opened.db).capacity image)
    (record { image = image; is_image = is; reads = refl })))

module _ (sectors : ℕ) (past : List Event) (is_left : Bool) (Among : Contents → Bounds → Type 0)
    (stands : FileAmong sectors past Among) where
  -- ---- it goes on

  pub goes_ready : (holder : Holder) (ready : Opened) (error : Option Fault)
      → IsHolderSound (sectors / 4) holder → GoesOn past holder ready → error ≡ holder.error
      → IsReadyIn (sectors / 4) Among holder error ready
  goes_ready holder ready error sound goes kept =
      let held = sound.held ready goes.own in
      let h = held.handle in
      let at = held.is_at in
      let seen = served.seen (device_below ready.db) in
      let there = stands (content_after past) (content_is_candidate past) in
      let same = one_map (sectors / 4) seen (content_after past) goes.unchanged h.state.map there.map
      h.state.bounds there.bounds (images_stand sectors ready h at goes.usable held.size seen
      (content_is_candidate (history (device_below ready.db)))) there.stands in
      record {
        map = there.map;
        bounds = there.bounds;
        among = there.among;
        ready_for = record {
          state = h.state;
          at = record { handle = h; is_at = at; state = refl; size = held.size };
          map_is = same.0;
          bounds_are = same.1;
          usable = ap (λ (x : Handle). x.state.usable) at.shows ∙ goes.usable;
          stands = held.stands;
          error_is = ap (λ (e : Option Fault). kept_error e h.state.error) kept
              ∙ ap (λ (e : Option Fault). kept_error holder.error e)
              (ap (λ (x : Handle). x.state.error) at.shows ∙ ap error_in (sym goes.own));
        };
      }

  -- ---- it begins anew

  module _ (synced : is_left ≡ false → IsSynced past) where
    found_stands : (writable left : Bool) → FileAmong sectors (found writable left past) Among
    found_stands false true = just_synced sectors past Among stands
    found_stands false false = stands
    found_stands true left = stands

    found_synced : (writable left : Bool) → writable ≡ false → is_left ≡ left
        → IsSynced (found writable left past)
    found_synced false true reads is = λ n content beside among. among
    found_synced false false reads is = synced is
    found_synced true left reads is = absurd (let x = reads in cc)

    reads_so : (how : How) → writes (how_of how).access ≡ false → how.writable ≡ false
    reads_so how is = by_access how.writable is
      where
        by_access : (b : Bool) → writes (cond b ReadWrite ReadOnly) ≡ false → b ≡ false
        by_access true is = is
        by_access false is = refl

    begins_so : (pass : Pass) (ready : Opened)
        → (b : BeginsAnew sectors past is_left pass ready)
        → DeviceStands (how_of b.how) sectors Among b.dev
    begins_so pass ready b =
        let how = how_of b.how in
        let events = b.file.past.events in
        let before = found b.how.writable is_left past in
        through (DeviceStands how sectors Among) (TriesToOpen how)
        (tried_stands how sectors Among b.there.0 b.there.1) b.begun b.tries b.dev b.tried
        record {
          size = b.is_over.size ∙ b.size;
          stands = subst (λ (es : List Event). FileAmong sectors es Among)
              (sym b.is_over.history)
              (same_stands events before b.same sectors Among (found_stands b.how.writable is_left));
          stable = λ reads. subst
              (λ (es : List Event). IsStable (IsCandidate es) (content_after es))
              (sym b.is_over.history)
              (all_stable events (same_synced events before b.same
              (found_synced b.how.writable is_left (reads_so b.how reads) refl)) b.one_turn);
        }

    -- what was opened is one of the maps
    is_among : (how : OpenHow) (dev : ListedDev) (other : Contents) (within : Bounds)
        → how.create ≡ false → how.truncate ≡ false → DeviceStands how sectors Among dev
        → IsOpened how (served.sectors dev) (served.candidate dev) other within
        → Among other within
    is_among how dev other within none whole has (inl is) =
        let there = has.stands is.0.image is.0.at_start in
        let same = one_meaning (settled (sectors / 4) is.0.image) there.map other there.bounds within
        there.stands (subst (λ (n : ℕ). ImageStandsFor (settled (n / 4) is.0.image) other within)
        has.size is.0.stands) in
        subst (λ (m : Contents). Among m within) same.0
        (subst (λ (b : Bounds). Among there.map b) same.1 there.among)
    is_among how dev other within none whole has (inr is) =
        absurd (never_empty how (served.sectors dev) dev none whole is.0)

    pub begun_ready : (holder : Holder) (error : Option Fault) (ready : Opened)
        → IsShortPass holder.pass → BeginsAnew sectors past is_left holder.pass ready
        → error ≡ own_error holder → IsReadyIn (sectors / 4) Among holder error ready
    begun_ready holder error ready short b kept =
        let how = how_of b.how in
        let has = begins_so holder.pass ready b in
        let all : AllStand (served.sectors b.dev / 4) (served.candidate b.dev) =
        λ image is. let there = has.stands image is in inr (
          there.map,
          there.bounds,
          subst
              (λ (n : ℕ). ImageStandsFor (settled (n / 4) image) there.map there.bounds) (sym has.size)
              there.stands,
        ) in
        let some = b.opens.stands has.stable all in
        let at = some.2 in
        let s = fresh some.0 some.1 (writes how.access) in
        let taken = pass_ready (sectors / 4) s holder.pass b.told ready refl short b.takes
        (all_told (sectors / 4) s b.opened b.telling b.told b.tells (record {
          handle = at.handle;
          is_at = at.is_at;
          state = at.is_fresh;
          size = ap (λ (x : Handle). x.capacity) at.is_at.shows ∙ b.opens.fresh.capacity
              ∙ ap (λ (n : ℕ). n / 4) has.size;
        })) in
        record {
          map = some.0;
          bounds = some.1;
          among = is_among how b.dev some.0 some.1 b.there.0 b.there.1 has some.3;
          ready_for = record {
            state = record s { pass = taken.0 };
            at = taken.2;
            map_is = refl;
            bounds_are = refl;
            usable = refl;
            stands = taken.1;
            error_is = kept_none error ∙ kept;
          };
        }

pub has_ready : (sectors : ℕ) (file : SharedFile) (Among : Contents → Bounds → Type 0)
    → FileAmong sectors file.past Among → (file.is_left ≡ false → IsSynced file.past)
    → (holder : Holder) (error : Option Fault) (ready : Opened)
    → IsHolderSound (sectors / 4) holder → HasDatabase sectors file holder ready error
    → IsReadyIn (sectors / 4) Among holder error ready
has_ready sectors file Among stands synced holder error ready sound (inl goes) =
    goes_ready sectors file.past file.is_left Among stands holder ready error sound goes.0 goes.1
has_ready sectors file Among stands synced holder error ready sound (inr begins) =
    begun_ready sectors file.past file.is_left Among stands synced holder error ready sound.short
    begins.0 begins.1
