-- Statuses as numbers of C.
use Rattle.std.proofs.Common.{T, ◌≡◌, ℤ, ◌<◌, refl, sym, subst, w32, to_z, of_z}
use Rattle.std.proofs.Math.Facts.{sfits_lit, to_z-of_z}
use Rattle.std.specs.Int.Signed.{mag}
use Rattle.std.proofs.lemmas.Bool.{lt-ltb}
use Rattle.dbm_model.specs.Calls as model
use Rattle.dbm_fault.specs.Faults.{fault_of}
use Rattle.dbm_fault.specs.declared.fault.Fault.{Fault}
use Rattle.dbm_fault.specs.declared.fault.Fault.TheVariants.{Damaged}
use Rattle.ndbm_calls.specs.Statuses.{refusal_of}

-- a number that fits is read back as it was written
pub read_back : (z : ℤ) → mag z < 2147483648 → to_z w32 (of_z w32 z) ≡ z
read_back z small =
    to_z-of_z (sfits_lit {w = w32} (subst T (sym (lt-ltb (mag z) 2147483648 small)) tt))

-- no other fault is told as a damage
pub only_damage : (fault : Fault) → refusal_of (fault_of fault) ≡ refusal_of model.Damaged
    → fault ≡ Damaged
only_damage Damaged is = refl
only_damage other is = absurd (let e = is in cc)
