-- The numbers of the faults.
use Rattle.std.proofs.Common.{◌≡◌, ℕ, ◌-◌, slice_index_or, refl, sym, ◌∙◌, ap}
use Rattle.dbm_model.specs.Calls.{Fault, Memory, Device, Broken, ReadOnly, TooLong, Full, NoPass, NoRoom, Damaged, NotADatabase, Version, TooSmall, BadLimit, Missing, Exists, number_of}
use Rattle.dbm_model.specs.FaultNumbers.{all_faults, NumbersDiffer, NoFaultIsZero}

abbrev fault_at : ℕ → Fault
fault_at number = slice_index_or all_faults (number - 1) Memory

stands_there : (fault : Fault) → fault_at (number_of fault) ≡ fault
stands_there Memory = refl
stands_there Device = refl
stands_there Broken = refl
stands_there ReadOnly = refl
stands_there TooLong = refl
stands_there Full = refl
stands_there NoPass = refl
stands_there NoRoom = refl
stands_there Damaged = refl
stands_there NotADatabase = refl
stands_there Version = refl
stands_there TooSmall = refl
stands_there BadLimit = refl
stands_there Missing = refl
stands_there Exists = refl

pub numbers_differ : NumbersDiffer
numbers_differ one other same = sym (stands_there one) ∙ ap fault_at same ∙ stands_there other

pub no_fault_is_zero : NoFaultIsZero
no_fault_is_zero Memory is = absurd (let zero = is in cc)
no_fault_is_zero Device is = absurd (let zero = is in cc)
no_fault_is_zero Broken is = absurd (let zero = is in cc)
no_fault_is_zero ReadOnly is = absurd (let zero = is in cc)
no_fault_is_zero TooLong is = absurd (let zero = is in cc)
no_fault_is_zero Full is = absurd (let zero = is in cc)
no_fault_is_zero NoPass is = absurd (let zero = is in cc)
no_fault_is_zero NoRoom is = absurd (let zero = is in cc)
no_fault_is_zero Damaged is = absurd (let zero = is in cc)
no_fault_is_zero NotADatabase is = absurd (let zero = is in cc)
no_fault_is_zero Version is = absurd (let zero = is in cc)
no_fault_is_zero TooSmall is = absurd (let zero = is in cc)
no_fault_is_zero BadLimit is = absurd (let zero = is in cc)
no_fault_is_zero Missing is = absurd (let zero = is in cc)
no_fault_is_zero Exists is = absurd (let zero = is in cc)
