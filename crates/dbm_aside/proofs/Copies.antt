-- What the gathered pairs of a map leave where they are stored.
use Rattle.std.proofs.Common.{◌≡◌, inl, inr, List, length, map, Result, Ok, Err, OnOk, refl, subst, arith}
use Rattle.std.specs.FinMap.{empty, entries}
use Rattle.dbm_model.specs.Calls.{Stored}
use Rattle.dbm_model.specs.Changes.{replacing}
use Rattle.dbm_model.specs.Pairs.{Pair, Contents}
use Rattle.dbm_model.specs.Steps.{Run}
use Rattle.page_io.specs.declared.store.PageStore.{Ghosts}
use Rattle.dbm_fault.specs.declared.engine_fault.EngineFault.{EngineFault}
use Rattle.dbm_fault.specs.declared.engine_fault.EngineFault.TheVariants.{Memory, Read, Write, Line, Db}
use Rattle.dbm_file.specs.Database.{AtEachHandle}
use Rattle.dbm_file.specs.Held.{held_by}
use Rattle.dbm_file.specs.declared.database.Database.{Database}
use Rattle.dbm_file.proofs.Breaks.{rests_shown}
use Rattle.dbm_engines.specs.Storing.{StoresAll, StopsWithin}
use Rattle.dbm_engines.proofs.LoadingRuns.{fills}
use Rattle.dbm_engines.proofs.Stores.{OnlyNow}
use Rattle.dbm_engines.specs.Dumping.{Stays}
use Rattle.dbm_aside.specs.Copying.{HasMap, StoresPairs, StopsWithinMap, CopiesPairs}

-- all of them, stored into an empty database, give the map
pub copied : {S : Type 0} {s : Ghosts S} (result : Result Unit EngineFault) (old new : Database S s)
    (pairs : List Pair) (contents : Contents) → pairs ≡ entries contents
    → StoresPairs result old new pairs
    → AtEachHandle old (λ t. t.state.map ≡ empty → OnOk result (HasMap new contents))
copied (Err fault) old new pairs contents is stores honest t at none = tt
copied (Ok done) old new pairs contents is stores honest t at none =
    let run = stores honest t at in (
      run.after,
      run.is_at,
      fills contents t run.after none
          (subst (λ (ps : List Pair).
          Run t (map replacing ps) (map (λ _. Stored) ps) run.after) is run.run),
    )

-- some of them are some of the map's
pub stopped : {S : Type 0} {s : Ghosts S} (result : Result Unit EngineFault) (old new : Database S s)
    (pairs : List Pair) (contents : Contents) → pairs ≡ entries contents
    → StoresPairs result old new pairs → StopsWithinMap result old new contents
stopped (Ok done) old new pairs contents is stores =
    subst (λ (ps : List Pair). StoresAll old new ps) is stores
stopped (Err (Db fault)) old new pairs contents is stores =
    inr (subst (λ (ps : List Pair). StopsWithin old new ps fault) is stores)
stopped (Err Memory) old new pairs contents is stores = stores
stopped (Err Read) old new pairs contents is stores = absurd stores
stopped (Err Write) old new pairs contents is stores = absurd stores
stopped (Err (Line n)) old new pairs contents is stores = absurd stores

-- nothing was called
pub not_called : {S : Type 0} {s : Ghosts S} (fault : EngineFault) (db : Database S s)
    (contents : Contents) → StopsWithinMap (Err fault) db db contents
not_called (Db fault) db contents = inl refl
not_called Memory db contents = refl
not_called Read db contents = refl
not_called Write db contents = refl
not_called (Line n) db contents = refl

pub counted : {S : Type 0} {s : Ghosts S} (result : Result Unit EngineFault) (old new : Database S s)
    (pairs : List Pair) (count : _) → length pairs ≡ count → StoresPairs result old new pairs
    → OnOk result (CopiesPairs count old new)
counted (Ok done) old new pairs count is stores = (pairs, is, stores)
counted (Err fault) old new pairs count is stores = tt

-- a database that was not called stays
pub stays_still : {S : Type 0} (s : Ghosts S) (db : Database S s) → OnlyNow db
    → AtEachHandle db (Stays db db)
stays_still s db only honest h at = record {
  after = h;
  is_at = at;
  keeps = record {
    map = refl;
    bounds = refl;
    writable = refl;
    usable = refl;
  };
  survives = λ usable. record {
    later = omega arith;
    until = omega arith;
    each = λ x left. (held_by h.state, refl, rests_shown db h at usable x (only x honest left));
    before = λ t x le left. inl left;
  };
}
