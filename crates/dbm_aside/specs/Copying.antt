-- What a copy of a database's pairs leaves.
use Rattle.std.specs.Prelude.{◌≡◌, ◌⊎◌, ℕ, List, [], ◌∷◌, length, Result, Ok, Err}
use Rattle.std.specs.FinMap.{entries}
use Rattle.dbm_model.specs.Pairs.{Pair, Contents}
use Rattle.dbm_model.specs.States.{Handle}
use Rattle.page_io.specs.declared.store.PageStore.{Ghosts}
use Rattle.dbm_fault.specs.declared.fault.Fault.TheVariants as refusal
use Rattle.dbm_fault.specs.declared.engine_fault.EngineFault.{EngineFault}
use Rattle.dbm_fault.specs.declared.engine_fault.EngineFault.TheVariants.{Memory, Db}
use Rattle.dbm_file.specs.Database.{IsAt}
use Rattle.dbm_file.specs.declared.database.Database.{Database}
use Rattle.dbm_engines.specs.Storing.{StoresAll, StopsWithin}

-- the database is at a handle with this map
abbrev pub HasMap : {S : Type 0} {s : Ghosts S} → Database S s → Contents → Type 0
HasMap db map = (after : Handle) × IsAt db after × (after.state.map ≡ map)

-- so many pairs were stored, and nothing else was called
abbrev pub CopiesPairs : {S : Type 0} {s : Ghosts S} → ℕ → Database S s → Database S s → Type 0
CopiesPairs count old new =
    (pairs : List Pair) × (length pairs ≡ count) × StoresAll old new pairs

-- all of these pairs were stored, or some from the first one on, or nothing was called
abbrev pub StoresPairs : {S : Type 0} {s : Ghosts S} → Result Unit EngineFault → Database S s
    → Database S s → List Pair → Type 0
StoresPairs (Ok done) old new pairs = StoresAll old new pairs
StoresPairs (Err (Db fault)) old new pairs = StopsWithin old new pairs fault
StoresPairs (Err Memory) old new pairs = new ≡ old
StoresPairs _ old new pairs = ⊥

-- where it was refused, nothing was called, or some pairs of the map were stored
abbrev pub StopsWithinMap : {S : Type 0} {s : Ghosts S} → Result Unit EngineFault → Database S s
    → Database S s → Contents → Type 0
StopsWithinMap (Ok done) old new map = StoresAll old new (entries map)
StopsWithinMap (Err (Db fault)) old new map =
    (new ≡ old) ⊎ StopsWithin old new (entries map) fault
StopsWithinMap (Err fault) old new map = new ≡ old

-- by want of memory for the pairs, or by a fault that a dump or a store may meet
abbrev pub copy_faults : List EngineFault
copy_faults = Memory ∷ Db refusal.Broken ∷ Db refusal.ReadOnly ∷ Db refusal.TooLong
    ∷ Db refusal.Full ∷ Db refusal.NoPass ∷ Db refusal.Device ∷ Db refusal.Damaged
    ∷ Db refusal.Memory ∷ Db refusal.NoRoom ∷ []
