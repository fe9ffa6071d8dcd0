-- What an opening leaves of the members that the images stood for, and with which it begins.
use Rattle.std.proofs.Common.{◌≡◌, ◌⊎◌, inl, inr, ℕ, ◌+◌, ◌/◌, ◌≤◌, Bool, true, false, cond, not, ◌++◌, length, map, None, Some, refl, sym, ◌∙◌, ap, subst, arith, Contains}
use Rattle.std.specs.FinMap.{empty}
use Rattle.std.proofs.lemmas.List.Elements.{Contains-append_left, Contains-append_right}
use Rattle.dbm_model.specs.Bounds.{Bounds}
use Rattle.sect_dev.specs.Device.{Candidates}
use Rattle.dbm_model.specs.Pairs.{Contents}
use Rattle.dbm_model.specs.States.{State, Handle, fresh}
use Rattle.page_io.specs.Store.{Pages, Settled, blank, file_of}
use Rattle.page_io.specs.Meaning.{ImageStandsFor}
use Rattle.page_io.proofs.Meanings.{one_meaning}
use Rattle.redo_area.specs.File.{settled}
use Rattle.redo_area.specs.Settling.{SettlesTo}
use Rattle.dbm_model.specs.Members.{Member, NoDatabase, Holding, Members, held, opened}
use Rattle.dbm_model.specs.Sessions.{Disk, IsOn, Begins}
use Rattle.dbm_model.proofs.Lists.{map_has}
use Rattle.file_opening.specs.Opening.{writes, making_fault, room_fault, BeginsEmpty, IsRefusedOpening, MayRemain, AllStand, IsOpened}
use Rattle.dbm_fault.specs.declared.fault.Fault.{Fault}
use Rattle.dbm_fault.specs.declared.fault.Fault.TheVariants.{NotADatabase}
use Rattle.dbm_model.specs.Sizes.{sectors_for}
use Rattle.page_io.specs.declared.store.PageStore.{Ghosts}
use Rattle.file_opening.specs.declared.open_how.OpenHow.{OpenHow}
use Rattle.dbm_file.specs.Database.{store_of, page_state, IsAt}
use Rattle.dbm_file.proofs.OpenedFiles.{counts_pairs, few_pages, within_at}
use Rattle.dbm_file.specs.Opened.{IsOpenedAt}
use Rattle.dbm_file.specs.declared.database.Database.{Database}
use Rattle.rehearsal.specs.Members.{StandsFor, StandsForOne, AllStandFor}
use Rattle.rehearsal.specs.Sessions.{asked_bounds, opening_of, for_writing}
use Rattle.rehearsal.specs.declared.sessions.Opening.{Opening}

-- ---- one image

-- a blank image stands for no map
none_in_blank : (y : Settled) (contents : Contents) (bounds : Bounds) → y ≡ blank
    → ImageStandsFor y contents bounds → ⊥
none_in_blank y contents bounds is stands =
    subst (λ (z : Settled). ImageStandsFor z contents bounds) is stands

blank_stands : (member : Member) (y : Settled) → StandsFor y member → y ≡ blank
    → member ≡ NoDatabase
blank_stands NoDatabase y stands is = refl
blank_stands (Holding contents bounds) y stands is =
    absurd (none_in_blank y contents bounds is stands)

-- and one that stands for a map for that alone
map_stands : (member : Member) (y : Settled) (contents : Contents) (bounds : Bounds)
    → StandsFor y member → ImageStandsFor y contents bounds → member ≡ Holding contents bounds
map_stands NoDatabase y contents bounds stands has =
    absurd (none_in_blank y contents bounds stands has)
map_stands (Holding other within) y contents bounds stands has =
    let same = one_meaning y other contents within bounds stands has in
    ap (λ (m : Contents). Holding m within) same.0 ∙ ap (Holding contents) same.1

-- a file stands for a map
abbrev HoldsSome : Member → Type 0
HoldsSome member = (contents : Contents) × (bounds : Bounds) × (member ≡ Holding contents bounds)

file_stands : (member : Member) (y : Settled) (pages : Pages) → StandsFor y member
    → y ≡ file_of pages → HoldsSome member
file_stands NoDatabase y pages stands is = absurd (let both = sym stands ∙ is in cc)
file_stands (Holding contents bounds) y pages stands is = (contents, bounds, refl)

-- blank, or of a map
stands_so : (member : Member) (y : Settled) → StandsFor y member → (y ≡ blank)
    ⊎ ((contents : Contents) × (bounds : Bounds) × ImageStandsFor y contents bounds)
stands_so NoDatabase y stands = inl stands
stands_so (Holding contents bounds) y stands = inr (contents, bounds, stands)

-- ---- all of them

pub all_stand : (before : Members) (pages : ℕ) (start : Candidates)
    → AllStandFor before pages start → AllStand pages start
all_stand before pages start stand image is =
    let one = stand image is in stands_so one.0 (settled pages image) one.2

created : (how : Opening) (sectors : ℕ) → making_fault (for_writing how) sectors ≡ None
    → how.create ≡ true
created how sectors due = by_create how.create due
  where
    by_create : (b : Bool) → cond (not b) (Some NotADatabase)
        (room_fault (sectors_for (asked_bounds how)) sectors) ≡ None → b ≡ true
    by_create true is = refl
    by_create false is = absurd (let x = is in cc)

module _ (before : Members) (how : Opening) (sectors : ℕ) (start : Candidates)
    (stand : AllStandFor before (sectors / 4) start) where
  -- a member that the opening makes, or empties
  abbrev BeginsAt : Contents → Bounds → Type 0
  BeginsAt contents bounds = (member : Member) × Contains before member
      × (opened (opening_of how) member ≡ Holding contents bounds)

  at_start : (y : Settled) → SettlesTo (sectors / 4) start y → StandsForOne before y
  at_start y there = subst (StandsForOne before) there.reads (stand there.image there.is_image)

  begins_empty : BeginsEmpty (for_writing how) sectors start → BeginsAt empty (asked_bounds how)
  begins_empty (inl makes) =
      let one = at_start blank makes.on_blank in (
        NoDatabase,
        subst (Contains before) (blank_stands one.0 blank one.2 refl) one.1,
        ap (λ b. cond b (Holding empty (asked_bounds how)) NoDatabase)
            (created how sectors makes.due),
      )
  begins_empty (inr empties) =
      let one = at_start (file_of empties.file) empties.at_start in
      let some = file_stands one.0 (file_of empties.file) empties.file one.2 refl in (
        Holding some.0 some.1,
        subst (Contains before) some.2 one.1,
        ap (λ b. cond b (Holding empty (asked_bounds how)) (Holding some.0 some.1))
            empties.empties.asked,
      )

  -- what may remain of the device stands for what there was, or for what the opening makes of that
  pub remains : (y : Settled) → MayRemain (for_writing how) sectors start y
      → StandsForOne (before ++ map (opened (opening_of how)) before) y
  remains y (inl there) =
      let one = at_start y there in (
        one.0,
        Contains-append_left before (map (opened (opening_of how)) before) one.0 one.1,
        one.2,
      )
  remains y (inr (begins, stands)) =
      let one = begins_empty begins in (
        opened (opening_of how) one.0,
        Contains-append_right before (map (opened (opening_of how)) before)
            (opened (opening_of how) one.0) (map_has (opened (opening_of how)) before one.0 one.1),
        subst (StandsFor y) (sym one.2) stands,
      )

  begins_at : (contents : Contents) (bounds : Bounds)
      → IsOpened (for_writing how) sectors start contents bounds → BeginsAt contents bounds
  begins_at contents bounds (inl (stood, kept, others)) =
      let one = stand stood.image stood.at_start in (
        Holding contents bounds,
        subst (Contains before)
            (map_stands one.0 (settled (sectors / 4) stood.image) contents bounds one.2
            stood.stands) one.1,
        ap (λ b. cond b (Holding empty (asked_bounds how)) (Holding contents bounds)) kept,
      )
  begins_at contents bounds (inr (begins, is_empty, bounds_are)) =
      let one = begins_empty begins in (
        one.0,
        one.1,
        one.2 ∙ ap (λ (b : Bounds). Holding empty b) (sym bounds_are)
            ∙ ap (λ (m : Contents). Holding m bounds) (sym is_empty),
      )

  -- a database that was just opened begins with one of the members
  pub begins : (disk : Disk) (contents : Contents) (bounds : Bounds) (first : Handle)
      → first.state ≡ fresh contents bounds true
      → IsOpened (for_writing how) sectors start contents bounds → IsOn disk first
      → Begins disk before (opening_of how) first
  begins disk contents bounds first is opens on =
      let one = begins_at contents bounds opens in
      record {
        member = one.0;
        among = one.1;
        begins = one.2 ∙ ap held (sym is);
        is_fresh = is
            ∙ ap (λ (m : Contents). fresh m bounds true) (sym (ap (λ (s : State). s.map) is))
            ∙ ap (λ (b : Bounds). fresh first.state.map b true)
            (sym (ap (λ (s : State). s.bounds) is));
        is_on = on;
      }

  -- an image that a refused opening leaves settles as one at the start did
  pub stays_refused : (now : Candidates) (fault : Fault)
      → IsRefusedOpening (for_writing how) sectors start now fault
      → AllStandFor before (sectors / 4) now
  stays_refused now fault refused image is =
      subst (StandsForOne before) (sym (refused.left refl image is))
      (stand refused.image refused.at_start)

-- ---- a database that was opened so

-- its handle, where its device had failed so often before; `ends` is the law of its store
pub on_device : {S : Type 0} (s : Ghosts S) (db : Database S s) (disk : Disk) (h : Handle)
    → IsAt db h → h.state.usable ≡ true → (page_state db).capacity ≡ disk.pages
    → disk.at_start ≤ s.faults (store_of db)
    → length (s.committed (store_of db)) + 1 ≡ (page_state db).end → IsOn disk h
on_device s db disk h at usable capacity later ends =
    let counted = counts_pairs s db h at usable in
    record {
      capacity = ap (λ (x : Handle). x.capacity) at.shows ∙ capacity;
      counts = omega (arith, later, ap (λ (x : Handle). x.faults) at.shows);
      limited = (
        omega (arith, db.valid.limited.0, counted.1),
        omega (arith, db.valid.limited.1, counted.1),
      );
      within = within_at s db h at usable;
      light = omega (
        arith,
        db.valid.few_pairs.1,
        counted.0,
        ap (λ (x : Handle). x.buckets) at.shows,
      );
      few_pages = omega (
        arith,
        few_pages s db h at usable ends,
        ap (λ (x : Handle). x.pages) at.shows,
      );
    }

-- it is at a handle with which a session begins
pub record IsBegun {S : Type 0} {s : Ghosts S} (db : Database S s) (disk : Disk)
    (before : Members) (how : Opening) : Type 0 where
  pub handle : Handle
  pub is_at : IsAt db handle
  pub usable : handle.state.usable ≡ true
  pub begins : Begins disk before (opening_of how) handle

pub never_reads : (how : Opening) (asked : OpenHow) → asked ≡ for_writing how
    → writes asked.access ≡ false → ⊥
never_reads how asked is reads =
    absurd (let x = sym (ap (λ (h : OpenHow). writes h.access) is) ∙ reads in cc)

pub begun : {S : Type 0} {s : Ghosts S} (db : Database S s) (disk : Disk) (before : Members)
    (how : Opening) (asked : OpenHow) (sectors : ℕ) (start : Candidates)
    → asked ≡ for_writing how → AllStandFor before (sectors / 4) start
    → (page_state db).capacity ≡ disk.pages → disk.at_start ≤ s.faults (store_of db)
    → length (s.committed (store_of db)) + 1 ≡ (page_state db).end
    → (contents : Contents) × (bounds : Bounds)
    × IsOpenedAt (writes asked.access) db contents bounds
    × IsOpened asked sectors start contents bounds → IsBegun db disk before how
begun {S} {s} db disk before how asked sectors start is stand capacity later ends
    (contents, bounds, opens, holds) =
    let fresh_so = opens.is_fresh
    ∙ ap (λ (h : OpenHow). fresh contents bounds (writes h.access)) is in
    record {
      handle = opens.handle;
      is_at = opens.is_at;
      usable = ap (λ (x : State). x.usable) fresh_so;
      begins = begins before how sectors start stand disk contents bounds opens.handle fresh_so
          (subst (λ (h : OpenHow). IsOpened h sectors start contents bounds) is holds)
          (on_device s db disk opens.handle opens.is_at (ap (λ (x : State). x.usable) fresh_so)
          capacity later ends);
    }
