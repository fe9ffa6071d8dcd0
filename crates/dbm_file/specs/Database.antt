-- What a caller sees of an open database.
use Rattle.std.specs.Prelude.{◌≡◌, true, Option}
use Rattle.std.specs.Option.{option_map}
use Rattle.dbm_model.specs.Calls as model
use Rattle.page_model.specs.Pages.{Meta}
use Rattle.page_model.specs.Valid.{meta_buckets}
use Rattle.dbm_model.specs.Pairs.{Contents}
use Rattle.dbm_model.specs.States.{Handle}
use Rattle.page_io.specs.Store.{Settled, StoreState}
use Rattle.page_io.specs.Meaning.{ImageStandsFor}
use Rattle.page_io.specs.declared.store.PageStore.{Ghosts}
use Rattle.seg_table.specs.MetaPages.{model_meta}
use Rattle.dbm_fault.specs.Faults.{fault_of}
use Rattle.page_io.specs.Committing.{Holds}
use Rattle.dbm_file.specs.Passing.{pass_of}
use Rattle.dbm_file.specs.declared.database.Database.{Database}

-- the store of pages below
abbrev pub store_of : {S : Type 0} {s : Ghosts S} → Database S s → S
store_of db = db.store

-- what is kept of the meta page
abbrev pub meta_kept : {S : Type 0} {s : Ghosts S} → Database S s → Meta
meta_kept db = model_meta db.meta

abbrev pub page_state : {S : Type 0} {s : Ghosts S} → Database S s → StoreState
page_state {S} {s} db = s.state db.store

-- the first fault since the opening or the last clearing
abbrev pub error_of : {S : Type 0} {s : Ghosts S} → Database S s → Option model.Fault
error_of db = option_map fault_of db.error

-- its file stands for the map
abbrev pub HoldsMap : {S : Type 0} {s : Ghosts S} → Database S s → Contents → Type 0
HoldsMap {S} {s} db map = (page_state db).usable ≡ true → Holds s (store_of db) (meta_kept db) map

-- every image that a stop may leave now stands for the map
abbrev pub StandsAfterStop : {S : Type 0} {s : Ghosts S} → Database S s → Contents → Type 0
StandsAfterStop {S} {s} db map =
    (page_state db).usable ≡ true → (settled : Settled) → s.settles_to (store_of db) settled
    → ImageStandsFor settled map (meta_kept db).bounds

-- the handle of a database at this map
abbrev pub handle_of : {S : Type 0} {s : Ghosts S} → Database S s → Contents → Handle
handle_of {S} {s} db map = record {
  state = record {
    map = map;
    bounds = (meta_kept db).bounds;
    error = error_of db;
    pass = pass_of db;
    writable = (page_state db).writable;
    usable = (page_state db).usable;
  };
  faults = s.faults (store_of db);
  pages = (page_state db).end;
  capacity = (page_state db).capacity;
  buckets = meta_buckets (meta_kept db);
}

-- The database is at this handle of the definitions. Of a broken one's map nothing is said: of its
-- file the clauses of the call that broke it speak.
pub record IsAt {S : Type 0} {s : Ghosts S} (db : Database S s) (h : Handle) : Type 0 where
  pub shows : h ≡ handle_of db h.state.map
  pub map : HoldsMap db h.state.map
  pub rests : StandsAfterStop db h.state.map

-- what is said of an honest database at any handle of the definitions
abbrev pub AtEachHandle : {S : Type 0} {s : Ghosts S} → Database S s → (Handle → Type 0) → Type 0
AtEachHandle {S} {s} db Says = s.honest (store_of db) → (h : Handle) → IsAt db h → Says h
