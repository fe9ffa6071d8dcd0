-- What stores of pairs leave, alone and many in one commit.
use Rattle.std.specs.Prelude.{◌≡◌, ◌⊎◌, ◌<◌, ℕ, List, [], ◌∷◌, ◌++◌, length, map, take, Result, Ok, Err}
use Rattle.dbm_model.specs.Calls.{Stored, Refused}
use Rattle.dbm_model.specs.Calls as model
use Rattle.dbm_model.specs.Changes.{replacing}
use Rattle.dbm_model.specs.Pairs.{Pair}
use Rattle.dbm_model.specs.States.{Handle}
use Rattle.page_io.specs.declared.store.PageStore.{Ghosts}
use Rattle.dbm_file.specs.Answers.{IsStep, IsSameDatabase}
use Rattle.dbm_file.specs.Database.{AtEachHandle}
use Rattle.dbm_file.specs.Groups.{IsGroupRefused}
use Rattle.dbm_file.specs.Runs.{IsRun}
use Rattle.dbm_fault.specs.Faults.{fault_of}
use Rattle.dbm_fault.specs.declared.fault.Fault.{Fault}
use Rattle.dbm_file.specs.declared.Pair as code
use Rattle.dbm_file.specs.declared.database.Database.{Database}
use Rattle.dbm_engines.specs.declared.load_stop.LoadStop.{LoadStop}
use Rattle.dbm_engines.specs.declared.load_stop.LoadStop.TheVariants.{Refused as RefusedAt}
use Rattle.dbm_engines.specs.declared.storing.StoreStop.{StoreStop}

-- a pair of the code, as one of the model
abbrev pub pair_of : code.Pair → Pair
pair_of pair = (pair.key.items, pair.content.items)

-- on an honest store the pairs were stored one after another, and no other call was made
abbrev pub StoresAll : {S : Type 0} {s : Ghosts S} → Database S s → Database S s
    → List Pair → Type 0
StoresAll old new pairs =
    AtEachHandle old (λ h. IsRun old new h (map replacing pairs) (map (λ _. Stored) pairs))

-- the same, and then the store of one more was refused
abbrev pub StoresBefore : {S : Type 0} {s : Ghosts S} → Database S s → Database S s → List Pair
    → Pair → model.Fault → Type 0
StoresBefore old new pairs refused fault =
    AtEachHandle old (λ h. IsRun old new h (map replacing pairs ++ replacing refused ∷ [])
    (map (λ _. Stored) pairs ++ Refused fault ∷ []))

-- The pairs were stored one after another, which led to a database `mid`, and the store of a group
-- of pairs was then refused there.
pub record StoresThenGroup {S : Type 0} {s : Ghosts S} (old new : Database S s) (h : Handle)
    (pairs group : List Pair) (fault : Fault) : Type 0 where
  pub mid : Database S s
  pub goes : IsSameDatabase old mid
  pub run : IsRun old mid h (map replacing pairs) (map (λ _. Stored) pairs)
  pub refused : IsGroupRefused mid new run.after group fault

-- The first pairs were stored, and then these ones refused: the one by a store of its own, or some
-- by one of their group.
abbrev pub IsRefused : {S : Type 0} {s : Ghosts S} → Database S s → Database S s → List Pair
    → List Pair → Fault → Type 0
IsRefused old new stored refused fault =
    ((pair : Pair) × (refused ≡ pair ∷ []) × StoresBefore old new stored pair (fault_of fault))
    ⊎ ((0 < length refused) × AtEachHandle old (λ h. StoresThenGroup old new h stored refused fault))

-- some of the pairs were stored, from the first one on, and the next ones refused
pub record StopsWithin {S : Type 0} {s : Ghosts S} (old new : Database S s) (pairs : List Pair)
    (fault : Fault) : Type 0 where
  pub stored : List Pair
  pub refused : List Pair
  pub later : List Pair
  pub pairs_are : pairs ≡ stored ++ (refused ++ later)
  pub how : IsRefused old new stored refused fault

-- what a store of this pair alone answers
abbrev pub StoresPair : {S : Type 0} {s : Ghosts S} → Result Unit Fault → Database S s
    → Database S s → Pair → Type 0
StoresPair (Ok done) old new pair =
    AtEachHandle old (λ h. IsStep old new h (replacing pair) Stored)
StoresPair (Err fault) old new pair =
    AtEachHandle old (λ h. IsStep old new h (replacing pair) (Refused (fault_of fault)))

-- the same of the pair of the line of this number
abbrev pub StoresAlone : {S : Type 0} {s : Ghosts S} → Result Unit LoadStop → ℕ → Database S s
    → Database S s → Pair → Type 0
StoresAlone (Ok done) number old new pair =
    AtEachHandle old (λ h. IsStep old new h (replacing pair) Stored)
StoresAlone (Err (RefusedAt line fault)) number old new pair =
    (line ≡ number)
    × AtEachHandle old (λ h. IsStep old new h (replacing pair) (Refused (fault_of fault)))
StoresAlone _ number old new pair = ⊥

-- so many of the pairs were stored, from the first one on, and the next ones refused
abbrev pub StopsBehind : {S : Type 0} {s : Ghosts S} → Database S s → Database S s → List Pair
    → ℕ → Fault → Type 0
StopsBehind old new pairs count fault =
    (stops : StopsWithin old new pairs fault) × (length stops.stored ≡ count)

-- what a store of some of these pairs answers: how many, from the first one on
abbrev pub StoresSome : {S : Type 0} {s : Ghosts S} → Result ℕ Fault → Database S s → Database S s
    → List Pair → Type 0
StoresSome (Ok stored) old new pairs = StoresAll old new (take stored pairs)
StoresSome (Err fault) old new pairs = StopsBehind old new pairs 0 fault

-- and of all of them
abbrev pub StoresEach : {S : Type 0} {s : Ghosts S} → Result Unit StoreStop → Database S s
    → Database S s → List Pair → Type 0
StoresEach (Ok done) old new pairs = StoresAll old new pairs
StoresEach (Err stop) old new pairs = StopsBehind old new pairs stop.stored stop.fault
