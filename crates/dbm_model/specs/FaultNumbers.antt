-- The numbers of the faults.
use Rattle.std.specs.Prelude.{◌≡◌, List, [], ◌∷◌, map, None}
use Rattle.dbm_model.specs.Calls.{Fault, Memory, Device, Broken, ReadOnly, TooLong, Full, NoPass, NoRoom, Damaged, NotADatabase, Version, TooSmall, BadLimit, Missing, Exists, number_of}
use Rattle.dbm_model.specs.States.{error_number}

-- all faults, in the order of their numbers
abbrev pub all_faults : List Fault
all_faults =
    Memory ∷ Device ∷ Broken ∷ ReadOnly ∷ TooLong ∷ Full ∷ NoPass ∷ NoRoom ∷ Damaged ∷ NotADatabase
    ∷ Version ∷ TooSmall ∷ BadLimit ∷ Missing ∷ Exists ∷ []

abbrev pub FaultsAreNumbered : Type 0
FaultsAreNumbered = map number_of all_faults ≡ 1 ∷ 2 ∷ 3 ∷ 4 ∷ 5 ∷ 6 ∷ 7 ∷ 8 ∷ 9 ∷ 10 ∷ 11 ∷ 12
    ∷ 13 ∷ 14 ∷ 15 ∷ []

-- no two faults share a number
abbrev pub NumbersDiffer : Type 0
NumbersDiffer = (one other : Fault) → number_of one ≡ number_of other → one ≡ other

-- and none has that of no fault
abbrev pub NoFaultIsZero : Type 0
NoFaultIsZero = (fault : Fault) → number_of fault ≡ error_number None → ⊥
