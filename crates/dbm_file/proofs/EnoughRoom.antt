-- Openings of a device with twice the pages that each map's limit needs.
use Rattle.std.proofs.Common.{◌≡◌, ◌⊎◌, inl, inr, ⊎_elim, ℕ, ◌+◌, ◌*◌, ◌/◌, ◌≤◌, Bool, true, false, cond, not, ◌&&◌, Option, Some, None, length, refl, sym, ap, subst, ◌∙◌, arith}
use Rattle.std.specs.Prelude.{nat_lt}
use Rattle.std.specs.Option.{option_or}
use Rattle.std.proofs.lemmas.Bool.{ltb-false}
use Rattle.std.proofs.lemmas.Bool.Decides.{nat_tests}
use Rattle.dbm_model.specs.Bounds.{Version, V1, V2, Bounds}
use Rattle.sect_dev.specs.Device.{Image, Candidates}
use Rattle.dbm_model.specs.Pairs.{Contents}
use Rattle.dbm_model.specs.Room as model
use Rattle.dbm_model.specs.States.{Handle}
use Rattle.dbm_model.specs.Sizes.{is_limit, home, sectors_for}
use Rattle.page_model.specs.Pages.{Meta, MetaPage}
use Rattle.page_model.specs.PageBodies.{meta_of}
use Rattle.page_model.specs.Placement.{fresh_placement}
use Rattle.page_model.specs.Reading.{body_of}
use Rattle.page_model.specs.Valid.{IsMeta}
use Rattle.page_io.specs.Store.{Pages, Settled, StoreState, blank, file_of, nothing, page_of}
use Rattle.page_io.specs.Meaning.{FileStandsFor, ImageStandsFor}
use Rattle.page_io.specs.declared.store.PageStore as store
use Rattle.page_cache.specs.Stores.{store_below}
use Rattle.page_cache.specs.declared.cached_pages.CachedPages.{CachedPages}
use Rattle.redo_area.specs.File.{settled}
use Rattle.redo_area.specs.Header.{has_magic}
use Rattle.file_opening.specs.Opening.{writes, is_exclusive, early_fault, room_fault, making_fault, commit_fault, emptying_fault, RefusesFound, RefusesBy, IsRefusedOpening, KeepsMeta, bounds_of}
use Rattle.file_opening.specs.declared.open_how.OpenHow.{OpenHow}
use Rattle.file_opening.proofs.Rooms.{of_room}
use Rattle.dbm_fault.specs.declared.fault.Fault.{Fault}
use Rattle.dbm_fault.specs.declared.fault.Fault.TheVariants.{ReadOnly, NoRoom, NotADatabase, TooSmall, Exists, Damaged}
use Rattle.dbm_file.specs.Database.{store_of, meta_kept, page_state, IsAt}
use Rattle.dbm_file.specs.Opened.{AllHaveRoom, HasRoom}
use Rattle.dbm_file.specs.declared.database.Database.{Database}
use Rattle.dbm_file.proofs.OpenedFiles.{ShowsBelow}

-- neither a limit that is none nor a device that is too small for it
not_for_limit : (bounds : Bounds) (sectors : ℕ) → room_fault (sectors_for bounds) sectors ≡ Some NoRoom → ⊥
not_for_limit bounds sectors is = ⊎_elim (λ (bad : NoRoom ≡ _). absurd (cc))
    (λ (small : NoRoom ≡ _). absurd (cc)) (of_room (sectors_for bounds) sectors NoRoom is)

pub not_early : (how : OpenHow) (sectors : ℕ) → early_fault how sectors ≡ Some NoRoom → ⊥
not_early how sectors = by_test (how.truncate && not (writes how.access)) (nat_lt sectors 16)
  where
    by_test : (empties small : Bool)
        → cond empties (Some ReadOnly) (cond small (Some TooSmall) None) ≡ Some NoRoom → ⊥
    by_test true small is = absurd (cc)
    by_test false true is = absurd (cc)
    by_test false false is = absurd (cc)

not_making : (how : OpenHow) (sectors : ℕ) → making_fault how sectors ≡ Some NoRoom → ⊥
not_making how sectors = by_test how.create (writes how.access)
  where
    by_test : (create writes : Bool)
        → cond (not create) (Some NotADatabase)
        (cond (not writes) (Some ReadOnly) (room_fault (sectors_for (bounds_of how)) sectors))
        ≡ Some NoRoom → ⊥
    by_test false writes is = absurd (cc)
    by_test true false is = absurd (cc)
    by_test true true is = not_for_limit (bounds_of how) sectors is

-- three pages fit behind a file that is half as large as the device at most
not_emptying : (bounds : Bounds) (sectors end pages : ℕ) → end ≤ pages → 5 ≤ pages
    → 2 * pages ≤ sectors / 4
    → emptying_fault bounds sectors end ≡ Some NoRoom → ⊥
not_emptying bounds sectors end pages few some enough =
    by_room (room_fault (sectors_for bounds) sectors) (not_for_limit bounds sectors)
  where
    fits : commit_fault sectors end ≡ None
    fits = grind (arith, nat_tests)

    by_room : (told : Option Fault) → (told ≡ Some NoRoom → ⊥)
        → option_or told (commit_fault sectors end) ≡ Some NoRoom → ⊥
    by_room None other is = let both : None ≡ Some NoRoom = sym fits ∙ is in absurd (cc)
    by_room (Some f) other is = other is

-- a database of one pair has five pages
five_pages : (bounds : Bounds) → 1 ≤ bounds.limit → 5 ≤ home bounds
five_pages bounds some = by_version bounds.version
  where
    by_version : (v : Version) → 5 ≤ home (record { limit = bounds.limit; version = v })
    by_version V1 = omega (arith, some)
    by_version V2 = omega (arith, some)

-- a file that stands for a map with such bounds
not_found : (how : OpenHow) (sectors : ℕ) (pages : Pages) (map : Contents) (bounds : Bounds)
    → FileStandsFor pages map bounds → 2 * home bounds ≤ sectors / 4
    → RefusesFound how sectors pages NoRoom → ⊥
not_found how sectors pages map bounds stands enough (inl (excluded, is)) = absurd (cc)
not_found how sectors pages map bounds stands enough (inr (may, inl meta)) = absurd meta
not_found how sectors pages map bounds stands enough (inr (may, inr (good, asked, due))) =
    let bounded = ap home stands.bounded in
    not_emptying (bounds_of how) sectors (length pages + 1) (home bounds)
    (omega (arith, stands.good.bounded, stands.ends, bounded))
    (omega (arith, five_pages stands.placement.bounds stands.good.limited.0, bounded)) enough due

not_nothing : (how : OpenHow) (magic : Bool)
    → NoRoom ≡ cond (is_exclusive how) Exists (cond magic Damaged NotADatabase) → ⊥
not_nothing how = by_test (is_exclusive how)
  where
    by_test : (excluded magic : Bool) → NoRoom ≡ cond excluded Exists (cond magic Damaged NotADatabase)
        → ⊥
    by_test true magic is = absurd (cc)
    by_test false true is = absurd (cc)
    by_test false false is = absurd (cc)

not_by : (how : OpenHow) (sectors : ℕ) (image : Image) (found : Settled)
    → (found ≡ blank) ⊎ ((map : Contents) × (bounds : Bounds) × ImageStandsFor found map bounds
    × (2 * home bounds ≤ sectors / 4)) → RefusesBy found how sectors image NoRoom → ⊥
not_by how sectors image blank has why = not_making how sectors why
not_by how sectors image (file_of pages) (inl is) why = absurd (let x = is in cc)
not_by how sectors image (file_of pages) (inr (map, bounds, stands, enough)) why =
    not_found how sectors pages map bounds stands enough why
not_by how sectors image nothing has why = not_nothing how (has_magic (image 0)) why

pub never_short : (how : OpenHow) (sectors : ℕ) (start now : Candidates)
    → AllHaveRoom (sectors / 4) start → IsRefusedOpening how sectors start now NoRoom → ⊥
never_short how sectors start now all why =
    ⊎_elim (not_by how sectors why.image (settled (sectors / 4) why.image)
    (all why.image why.at_start)) (λ memory. let is = memory.0 in absurd (cc)) why.refuses

-- ---- what is opened

-- where nothing refuses the limit, the device has its sectors
has_sectors : (bounds : Bounds) (sectors : ℕ) → room_fault (sectors_for bounds) sectors ≡ None
    → 2 * home bounds ≤ sectors / 4
has_sectors bounds sectors = by_test (is_limit bounds.limit)
  where
    by_test : (b : Bool) → room_fault (cond b (Some (8 * home bounds)) None) sectors ≡ None
        → 2 * home bounds ≤ sectors / 4
    by_test false none = absurd (cc)
    by_test true none = omega (
      arith,
      ltb-false sectors (8 * home bounds) (by_size (nat_lt sectors (8 * home bounds)) none),
    )
      where
        by_size : (b : Bool) → cond b (Some TooSmall) None ≡ None → b ≡ false
        by_size true none = absurd (cc)
        by_size false none = refl

no_fault : (room commit : Option Fault) → option_or room commit ≡ None → room ≡ None
no_fault None commit none = refl
no_fault (Some f) commit none = absurd (cc)

may_make : (how : OpenHow) (sectors : ℕ) → making_fault how sectors ≡ None
    → room_fault (sectors_for (bounds_of how)) sectors ≡ None
may_make how sectors = by_test how.create (writes how.access)
  where
    by_test : (create writes : Bool)
        → cond (not create) (Some NotADatabase)
        (cond (not writes) (Some ReadOnly) (room_fault (sectors_for (bounds_of how)) sectors)) ≡ None
        → room_fault (sectors_for (bounds_of how)) sectors ≡ None
    by_test false writes none = absurd (cc)
    by_test true false none = absurd (cc)
    by_test true true none = none

-- a file that stands for a map has the bounds that its meta page says
bounds_said : (pages : Pages) (map : Contents) (bounds : Bounds) (kept : Meta)
    → FileStandsFor pages map bounds → body_of 1 (page_of pages 1) ≡ MetaPage kept
    → kept.bounds ≡ bounds
bounds_said pages map bounds kept stands says =
    let both = sym says ∙ stands.spelled.0 in
    let same : kept ≡ meta_of stands.placement = cc in
    ap (λ (m : Meta). m.bounds) same ∙ stands.bounded

found_room : (sectors : ℕ) (file : Pages) (kept : Meta) (found : Settled)
    → found ≡ file_of file → body_of 1 (page_of file 1) ≡ MetaPage kept
    → (found ≡ blank) ⊎ ((map : Contents) × (bounds : Bounds) × ImageStandsFor found map bounds
    × (2 * home bounds ≤ sectors / 4)) → 2 * home kept.bounds ≤ sectors / 4
found_room sectors file kept found is says (inl blank_is) =
    absurd (let both = sym is ∙ blank_is in cc)
found_room sectors file kept found is says (inr (map, bounds, stands, enough)) =
    subst (λ (b : Bounds). 2 * home b ≤ sectors / 4)
    (sym (bounds_said file map bounds kept
    (subst (λ (y : Settled). ImageStandsFor y map bounds) is stands) says)) enough

new_room : (how : OpenHow) (sectors : ℕ) (kept : Meta)
    → room_fault (sectors_for (bounds_of how)) sectors ≡ None
    → kept ≡ meta_of (fresh_placement (bounds_of how)) → 2 * home kept.bounds ≤ sectors / 4
new_room how sectors kept none is =
    subst (λ (m : Meta). 2 * home m.bounds ≤ sectors / 4) (sym is) (has_sectors (bounds_of how) sectors none)

pub opened_room : (how : OpenHow) (sectors : ℕ) (start : Candidates) (kept : Meta)
    → AllHaveRoom (sectors / 4) start → KeepsMeta how sectors start kept → 2 * home kept.bounds ≤ sectors / 4
opened_room how sectors start kept all (inr (makes, is)) =
    new_room how sectors kept (may_make how sectors makes.due) is
opened_room how sectors start kept all (inl (file, there, inr (empties, is))) =
    new_room how sectors kept (no_fault (room_fault (sectors_for (bounds_of how)) sectors)
    (commit_fault sectors (length file + 1)) empties.due) is
opened_room how sectors start kept all (inl (file, there, inl (kept_so, shared, valid, says))) =
    found_room sectors file kept (settled (sectors / 4) there.image) there.reads says
    (all there.image there.is_image)

-- a database over a store that was just opened has the room of its device
pub opened_has_room : {S : Type 0} {s : store.Ghosts S} (t : store.Ghosts (CachedPages S s))
    (db : Database (CachedPages S s) t) (file : S) (pages : ℕ)
    → ((cached : CachedPages S s) → ShowsBelow t cached) → store_below (store_of db) ≡ file
    → (s.state file).capacity ≡ pages → 2 * home (meta_kept db).bounds ≤ pages → HasRoom db
opened_has_room {S} {s} t db file pages shows same capacity enough =
    let state = (shows (store_of db)).state ∙ ap s.state same in
    record { room = omega (arith, enough, capacity, ap (λ (x : StoreState). x.capacity) state) }

-- which its handle has too
pub room_at : {S : Type 0} {s : store.Ghosts S} (db : Database S s) (h : Handle) → HasRoom db
    → IsAt db h → model.HasRoom h
room_at db h has at = subst model.HasRoom (sym at.shows) has.room

-- the largest limit needs the most pages
largest : (bounds : Bounds) → bounds.limit ≤ 1000000 → home bounds ≤ 34125249
largest bounds most = by_version bounds.version
  where
    by_version : (v : Version) → home (record { limit = bounds.limit; version = v }) ≤ 34125249
    by_version V1 = omega (arith, most)
    by_version V2 = omega (arith, most)

-- a file has room for all of them
pub file_has_room : {S : Type 0} {s : store.Ghosts S} (db : Database S s) → IsMeta (meta_kept db)
    → (page_state db).capacity ≡ 68250498 → HasRoom db
file_has_room db valid capacity = record {
  room = omega (arith, largest (meta_kept db).bounds valid.limited.1, capacity);
}
