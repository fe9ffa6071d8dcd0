-- The pairs that lines have put into a batch.
use Rattle.std.specs.Prelude.{◌≡◌, ℕ, Bool, true, false, List, [], ◌∷◌, ◌++◌, map, Option, Some, None, Result, Ok, Err}
use Rattle.std.specs.List.{zip}
use Rattle.dbm_model.specs.Pairs.{Pair}
use Rattle.page_io.specs.declared.store.PageStore.{Ghosts}
use Rattle.dbm_fault.specs.declared.fault.Fault.{Fault}
use Rattle.dbm_file.specs.declared.database.Database.{Database}
use Rattle.dbm_engines.specs.declared.batch.Batch.{Batch}
use Rattle.dbm_engines.specs.declared.load_stop.LoadStop.{LoadStop}
use Rattle.dbm_engines.specs.declared.load_stop.LoadStop.TheVariants.{Bad, Refused}
use Rattle.dbm_engines.specs.Storing.{pair_of, IsRefused, StoresAll}

-- a pair, and the number of its line
abbrev pub Numbered : Type 0
Numbered = ℕ × Pair

abbrev pub pairs_of : List Numbered → List Pair
pairs_of held = map (λ one. one.1) held

-- in the order of their lines
abbrev pub held_in : Batch → List Numbered
held_in batch = zip batch.lines.items (map pair_of batch.pairs.items)

-- the bytes of keys and contents that fill a batch, 4 MB
abbrev pub most_bytes : ℕ
most_bytes = 4194304

-- Some pairs were stored, which were held first, and one came behind those held: these are held
-- now.
abbrev pub Moves : {S : Type 0} {s : Ghosts S} → Database S s → Database S s → List Numbered
    → Numbered → List Numbered → Type 0
Moves old new held one kept =
    (stored : List Numbered) × (held ++ one ∷ [] ≡ stored ++ kept)
    × StoresAll old new (pairs_of stored)

-- the first of these pairs is that of the line of this number
abbrev pub BeginAt : ℕ → List Numbered → Type 0
BeginAt line [] = ⊥
BeginAt line (one ∷ held) = line ≡ one.0

-- Some of the pairs were stored, from the first one on, and the next ones refused, the first of
-- which is that of the line of this number.
pub record StopsAt {S : Type 0} {s : Ghosts S} (old new : Database S s) (held : List Numbered)
    (line : ℕ) (fault : Fault) : Type 0 where
  pub stored : List Numbered
  pub refused : List Numbered
  pub later : List Numbered
  pub held_are : held ≡ stored ++ (refused ++ later)
  pub how : IsRefused old new (pairs_of stored) (pairs_of refused) fault
  pub begin : BeginAt line refused

-- what a store of the pairs of a batch answers
abbrev pub StoresBatch : {S : Type 0} {s : Ghosts S} → Result Unit LoadStop → Database S s
    → Database S s → List Numbered → Type 0
StoresBatch (Ok done) old new held = StoresAll old new (pairs_of held)
StoresBatch (Err (Refused line fault)) old new held = StopsAt old new held line fault
StoresBatch _ old new held = ⊥

-- what becomes of a pair behind those that the batch holds, and of them
abbrev pub GroupsPair : {S : Type 0} {s : Ghosts S} → Result Unit LoadStop → Numbered
    → Database S s → Database S s → List Numbered → List Numbered → Type 0
GroupsPair (Ok done) one old new held kept = Moves old new held one kept
GroupsPair (Err (Refused line fault)) one old new held kept =
    StopsAt old new (held ++ one ∷ []) line fault
GroupsPair _ one old new held kept = ⊥

-- what becomes of one line of this number that is passed over, or says this pair, or is bad, and of
-- the pairs of the lines before it that the batch holds
abbrev pub GroupsLine : {S : Type 0} {s : Ghosts S} → Bool → Result Unit LoadStop → Option Pair
    → ℕ → Database S s → Database S s → List Numbered → List Numbered → Type 0
GroupsLine true (Ok done) said number old new held kept = (new ≡ old) × (kept ≡ held)
GroupsLine false (Ok done) (Some pair) number old new held kept =
    Moves old new held (number, pair) kept
GroupsLine false (Err (Refused line fault)) (Some pair) number old new held kept =
    StopsAt old new (held ++ (number, pair) ∷ []) line fault
GroupsLine false (Err (Refused line fault)) None number old new held kept =
    StopsAt old new held line fault
GroupsLine false (Err (Bad line why)) None number old new held kept =
    (line ≡ number) × StoresAll old new (pairs_of held)
GroupsLine _ _ said number old new held kept = ⊥
