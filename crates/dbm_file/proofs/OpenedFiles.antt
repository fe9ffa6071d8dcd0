-- A database as it was just opened, and what its images stand for.
use Rattle.std.proofs.Common.{◌≡◌, ◌⊎◌, inl, inr, ℕ, ◌+◌, ◌≤◌, length, Bool, true, Option, Some, None, Result, Ok, Err, refl, sym, ap, subst, ◌∙◌, arith}
use Rattle.std.specs.Prelude.{IfSome}
use Rattle.std.specs.FinMap.{get, len}
use Rattle.dbm_model.specs.Bounds.{Bounds}
use Rattle.sect_dev.specs.declared.device.SectorDev as device
use Rattle.dbm_model.specs.Pairs.{Contents, IsAllowed}
use Rattle.dbm_model.specs.Holding.{IsWithin}
use Rattle.dbm_model.specs.Sizes.{home}
use Rattle.dbm_model.specs.States.{NotBegun, Handle}
use Rattle.page_model.proofs.Members.{map_is_allowed}
use Rattle.page_model.specs.Meaning.{said_by}
use Rattle.page_io.specs.Store.{Settled, StoreState, page_of}
use Rattle.page_io.specs.Meaning.{FileStandsFor, ImageStandsFor}
use Rattle.page_io.specs.declared.store.PageStore as store
use Rattle.page_io.specs.Committing.{Holds}
use Rattle.page_cache.specs.Stores.{store_below}
use Rattle.page_cache.specs.declared.cached_pages.CachedPages.{CachedPages}
use Rattle.dbm_file.specs.Passing.{pass_of}
use Rattle.dbm_file.specs.Database.{store_of, meta_kept, error_of, HoldsMap, StandsAfterStop, handle_of, IsAt}
use Rattle.dbm_file.specs.Opened.{IsNewlyOpened, IsOpenedAt}
use Rattle.dbm_file.specs.Named.{RefusesFile}
use Rattle.file_opening.specs.Opening.{early_fault, IsRefusedOpening}
use Rattle.file_opening.specs.declared.open_how.OpenHow.{OpenHow}
use Rattle.dbm_fault.specs.declared.fault.Fault.{Fault}
use Rattle.dbm_file.specs.declared.database.Database.{Database}
use Rattle.dbm_file.proofs.GoodFiles.{contents_are}
use Rattle.dbm_file.proofs.ReadSteps.{at_own, same_parts}
use Rattle.linear_hash.proofs.Tables.{counted}

-- a database that was just opened is at a fresh handle
pub opened_at : {S : Type 0} {s : store.Ghosts S} (writable : Bool) (pages : ℕ) (db : Database S s)
    (map : Contents) (bounds : Bounds) → HoldsMap db map → StandsAfterStop db map
    → (meta_kept db).bounds ≡ bounds → IsNewlyOpened writable pages db
    → IsOpenedAt writable db map bounds
opened_at {S} {s} writable pages db map bounds held rests bounds_are fresh = record {
  handle = handle_of db map;
  is_at = at_own db map held rests;
  is_fresh = same_parts map _ _ _ _ _ _ _ _ _ _ fresh.no_pass bounds_are fresh.no_error
      fresh.writable fresh.usable;
}

-- a store over this one shows its committed pages, its state and what it settles to
pub record ShowsBelow {S : Type 0} {s : store.Ghosts S} (t : store.Ghosts (CachedPages S s))
    (cached : CachedPages S s) : Type 0 where
  pub committed : t.committed cached ≡ s.committed (store_below cached)
  pub state : t.state cached ≡ s.state (store_below cached)
  pub settles : (y : Settled) → t.settles_to cached y → s.settles_to (store_below cached) y

-- one over a store that was just opened holds what its file stands for
pub opened_over : {S : Type 0} {s : store.Ghosts S} (t : store.Ghosts (CachedPages S s))
    (writable : Bool) (pages : ℕ) (db : Database (CachedPages S s) t) (file : S) (map : Contents)
    (bounds : Bounds) → ((cached : CachedPages S s) → ShowsBelow t cached)
    → store_below (store_of db) ≡ file
    → ((s.state file).usable ≡ true → Holds s file (meta_kept db) map)
    → ((s.state file).usable ≡ true → (y : Settled) → s.settles_to file y
    → ImageStandsFor y map (meta_kept db).bounds)
    → (meta_kept db).bounds ≡ bounds → (s.state file).usable ≡ true
    → (s.state file).writable ≡ writable → (s.state file).capacity ≡ pages
    → error_of db ≡ None → pass_of db ≡ NotBegun → IsOpenedAt writable db map bounds
opened_over {S} {s} t writable pages db file map bounds shows same held rests bounds_are usable
    writes_so capacity no_error no_pass =
    let here = shows (store_of db) in
    let committed = here.committed ∙ ap s.committed same in
    let state = here.state ∙ ap s.state same in
    opened_at writable pages db map bounds
    (λ is. record {
      stands = subst (λ all. FileStandsFor all map (meta_kept db).bounds) (sym committed)
          (held usable).stands;
      meta_is = ap (λ all. said_by (page_of all) 1) committed ∙ (held usable).meta_is;
    })
    (λ is y left. rests usable y (subst (λ below. s.settles_to below y) same
    (here.settles y left)))
    bounds_are
    (record {
      usable = ap (λ (x : StoreState). x.usable) state ∙ usable;
      writable = ap (λ (x : StoreState). x.writable) state ∙ writes_so;
      capacity = ap (λ (x : StoreState). x.capacity) state ∙ capacity;
      no_error = no_error;
      no_pass = no_pass;
    })

-- where nothing refuses an opening at once, what it answers is open
pub early_again : {A B D : Type 0} (dev : D) (due : Option Fault) (file : A) (db : B)
    → IfSome due (λ fault. ◌≡◌ {A = Result A (D × Fault)} (Ok file) (Err (dev, fault)))
    → IfSome due (λ fault. ◌≡◌ {A = Result B (D × Fault)} (Ok db) (Err (dev, fault)))
early_again dev None file db told = tt
early_again dev (Some fault) file db told = absurd (cc told)

-- a usable one holds a map that its file stands for, and its meta page counts the pairs
pub counts_pairs : {S : Type 0} (s : store.Ghosts S) (db : Database S s) (h : Handle) → IsAt db h
    → h.state.usable ≡ true → ((meta_kept db).pairs ≡ len h.state.map)
    × ((meta_kept db).bounds.limit ≡ h.state.bounds.limit)
counts_pairs s db h at usable =
    let is_usable = sym (ap (λ (x : Handle). x.state.usable) at.shows) ∙ usable in (
      sym (counted s (store_of db) (meta_kept db) h.state.map (at.map is_usable)),
      sym (ap (λ (x : Handle). x.state.bounds.limit) at.shows),
    )

-- the pairs of that map are as many and as long as its bounds allow
pub within_at : {S : Type 0} (s : store.Ghosts S) (db : Database S s) (h : Handle) → IsAt db h
    → h.state.usable ≡ true → IsWithin h.state
within_at s db h at usable =
    let counted = counts_pairs s db h at usable in
    let held = at.map (sym (ap (λ (x : Handle). x.state.usable) at.shows) ∙ usable) in
    let same = contents_are (s.committed (store_of db)) h.state.map (meta_kept db).bounds held.stands in
    record {
      few = omega (arith, db.valid.few_pairs.0, counted.0, counted.1);
      allowed = λ key content has.
          subst (λ (b : Bounds). IsAllowed b.version (key, content))
          (held.stands.bounded ∙ sym (ap (λ (x : Handle). x.state.bounds) at.shows))
          (map_is_allowed held.stands.placement key content held.stands.good
          (ap (λ (m : Contents). get m key) same ∙ has));
    }

-- nor has it more pages than a database of its bounds needs; `ends` is the store's law
pub few_pages : {S : Type 0} (s : store.Ghosts S) (db : Database S s) (h : Handle) → IsAt db h
    → h.state.usable ≡ true
    → length (s.committed (store_of db)) + 1 ≡ (s.state (store_of db)).end
    → (s.state (store_of db)).end ≤ home h.state.bounds
few_pages s db h at usable ends =
    let held = at.map (sym (ap (λ (x : Handle). x.state.usable) at.shows) ∙ usable) in
    subst (λ (bounds : Bounds). (s.state (store_of db)).end ≤ home bounds)
    (held.stands.bounded ∙ sym (ap (λ (x : Handle). x.state.bounds) at.shows))
    (omega (arith, held.stands.good.bounded, held.stands.ends, ends))

-- every image that is left of it stands for the map
pub stands_for : {S : Type 0} (s : store.Ghosts S) (db : Database S s) (h : Handle) (y : Settled)
    → IsAt db h → h.state.usable ≡ true → s.settles_to (store_of db) y
    → ImageStandsFor y h.state.map h.state.bounds
stands_for s db h y at usable left =
    let is_usable = sym (ap (λ (x : Handle). x.state.usable) at.shows) ∙ usable in
    subst (λ (n : Bounds). ImageStandsFor y h.state.map n)
    (sym (ap (λ (x : Handle). x.state.bounds) at.shows)) (at.rests is_usable y left)

-- the fault of a refusal
abbrev fault_in : {T D : Type 0} → Fault → Result T (D × Fault) → Fault
fault_in other (Ok x) = other
fault_in other (Err e) = e.1

-- what refused an opening at once, or else
pub early_or : (T : Type 0) {D P : Type 0} (early : Option Fault) (fault : Fault) (first left : D)
    → IfSome early (λ told. ◌≡◌ {A = Result T (D × Fault)} (Err (left, fault)) (Err (first, told)))
    → (early ≡ None → P) → (early ≡ Some fault) ⊎ P
early_or T None fault first left told then = inr (then refl)
early_or T (Some e) fault first left told then = inl (ap Some (sym (ap (fault_in fault) told)))

-- a file of that size whose opening is refused
pub refuses_file : (T : Type 0) {D : Type 0} (bound : device.Ghosts D) (how : OpenHow)
    (first left : D) (fault : Fault) → (bound.moment first).at ≡ 0 → bound.sectors first ≡ 273001992
    → IfSome (early_fault how (bound.sectors first))
    (λ told. ◌≡◌ {A = Result T (D × Fault)} (Err (left, fault)) (Err (first, told)))
    → (bound.honest first → early_fault how (bound.sectors first) ≡ None
    → IsRefusedOpening how (bound.sectors first) (bound.candidate first)
    (bound.candidate left) fault)
    → RefusesFile bound how fault
refuses_file T bound how first left fault begins size early refused = record {
  first = first;
  begins = begins;
  size = size;
  left = left;
  refused = λ honest. subst (λ (n : ℕ).
      (early_fault how n ≡ Some fault)
      ⊎ IsRefusedOpening how n (bound.candidate first) (bound.candidate left) fault) size
      (early_or T (early_fault how (bound.sectors first)) fault first left early (refused honest));
}
