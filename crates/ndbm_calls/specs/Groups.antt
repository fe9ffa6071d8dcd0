-- Pairs that are stored in one commit.
use Rattle.std.specs.Prelude.{◌≡◌, ◌⊎◌, ◌≤◌, ◌++◌, ◌∷◌, [], ℕ, ℤ, pos, List, map, length, take}
use Rattle.dbm_model.specs.Calls.{Memory}
use Rattle.dbm_model.specs.Pairs.{Pair}
use Rattle.dbm_model.specs.States.{Handle}
use Rattle.page_io.specs.declared.store.PageStore.{Ghosts}
use Rattle.dbm_file.specs.Pairs.{pair_of}
use Rattle.dbm_fault.specs.Faults.{fault_of}
use Rattle.dbm_fault.specs.declared.fault.Fault.{Fault}
use Rattle.dbm_file.specs.Groups.{IsGroup, IsGroupRefused}
use Rattle.dbm_file.specs.declared.database.Database.{Database}
use Rattle.ndbm_calls.specs.Statuses.{refusal_of}
use Rattle.ndbm_calls.specs.declared.group.Group.{Group}

-- the pairs that were added
abbrev pub pairs_in : Group → List Pair
pairs_in group = map pair_of group.pairs.items

-- the pair is the last one now, or there was no memory for it
abbrev pub IsAdded : List Pair → List Pair → Pair → ℤ → Type 0
IsAdded old new pair status =
    ((status ≡ pos 0) × (new ≡ old ++ pair ∷ []))
    ⊎ ((status ≡ refusal_of Memory) × (new ≡ old))

-- so many of the pairs were stored in one commit, or they were refused by the fault that is told
abbrev pub IsGroupTold : {S : Type 0} {s : Ghosts S} → Database S s → Database S s → Handle
    → List Pair → ℤ → ℕ → Type 0
IsGroupTold old new h pairs status stored =
    ((status ≡ pos 0) × (stored ≤ length pairs) × IsGroup old new h (take stored pairs))
    ⊎ ((fault : Fault) × (status ≡ refusal_of (fault_of fault)) × IsGroupRefused old new h pairs fault)
