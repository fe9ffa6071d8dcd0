-- An opening of a device, by its status.
use Rattle.std.proofs.Common.{T, ◌≡◌, ◌⊎◌, inl, inr, ◌∙◌, ◌<◌, ℤ, pos, Option, Some, Result, Ok, Err, refl, sym, ap, subst, w32, to_z, of_z, arith}
use Rattle.std.proofs.Math.Facts.{sfits_lit, to_z-of_z}
use Rattle.std.proofs.lemmas.Bool.{lt-ltb}
use Rattle.std.specs.Int.Signed.{mag}
use Rattle.std.specs.Prelude.{IfSome, unwrap_or}
use Rattle.dbm_model.specs.Calls as model
use Rattle.dbm_model.specs.Calls.{Broken}
use Rattle.dbm_fault.specs.Faults.{fault_of}
use Rattle.dbm_fault.specs.declared.fault.Fault.{Fault}
use Rattle.file_opening.specs.declared.open_how.OpenHow.{OpenHow}
use Rattle.listed_dev.specs.declared.listed_dev.ListedDev.{ListedDev}
use Rattle.ndbm_calls.specs.Statuses.{refusal_of}
use Rattle.ndbm_calls.specs.Closing.{Closes}
use Rattle.listed_dev.specs.contracts.listed_dev.ListedDevSectorDev.TheImpl.{ghosts as served}
use Rattle.ndbm_c.specs.Held.{device_alone, database_alone}
use Rattle.ndbm_c.specs.Opening.{IsOpening, IsRefusal, OpensAs, ClosesAs}
use Rattle.ndbm_c.specs.declared.handle.Open.{Open}
use Rattle.ndbm_c.specs.declared.handle.Open.TheVariants.{Device, Database}
use Rattle.ndbm_c.specs.declared.handle.Opened.{Opened}

-- C gets the number that was answered
pub same_number : (z : ℤ) → mag z < 2147483648 → to_z w32 (of_z w32 z) ≡ z
same_number z small =
    to_z-of_z (sfits_lit {w = w32} (subst T (sym (lt-ltb (mag z) 2147483648 small)) tt))

-- what is taken is what there was
pub is_device : (held : Open) (dev : ListedDev) → device_alone held ≡ Some dev → held ≡ Device dev
is_device (Device own) dev is = ap (λ (o : Option ListedDev). Device (unwrap_or o own)) is
is_device other dev is = absurd (let no = is in cc)

pub is_database : (held : Open) (opened : Opened) → database_alone held ≡ Some opened
    → held ≡ Database opened
is_database (Database own) opened is = ap (λ (o : Option Opened). Database (unwrap_or o own)) is
is_database other opened is = absurd (let no = is in cc)

-- the status of a closing is small
small_end : (status : ℤ)
    → (status ≡ pos 0) ⊎ ((status ≡ refusal_of Broken) ⊎ (status ≡ refusal_of model.Device))
    → mag status < 2147483648
small_end status (inl is) = subst (λ (z : ℤ). mag z < 2147483648) (sym is) (omega (arith))
small_end status (inr (inl is)) = subst (λ (z : ℤ). mag z < 2147483648) (sym is) (omega (arith))
small_end status (inr (inr is)) = subst (λ (z : ℤ). mag z < 2147483648) (sym is) (omega (arith))

pub closed_so : (held : Open) (opened : Opened) (left : ListedDev) (status : ℤ)
    → held ≡ Database opened → Closes served opened.db left status
    → ClosesAs held (Device left) (to_z w32 (of_z w32 status))
closed_so held opened left status same is =
    subst (λ (n : ℤ). ClosesAs held (Device left) n)
    (sym (same_number status (small_end status is.told)))
    (subst (λ (h : Open). ClosesAs h (Device left) status) (sym same) is)

pub opened_so : (how : OpenHow) (held : Open) (dev : ListedDev) (opened : Opened)
    → held ≡ Device dev → IsOpening how dev opened → OpensAs how held (Database opened) (pos 0)
opened_so how held dev opened same is =
    subst (λ (h : Open). OpensAs how h (Database opened) (pos 0)) (sym same) (refl, is)

pub refused_so : (how : OpenHow) (held : Open) (dev left : ListedDev) (fault : Fault) (status : ℤ)
    → held ≡ Device dev → status ≡ refusal_of (fault_of fault) → IsRefusal how dev left fault
    → OpensAs how held (Device left) status
refused_so how held dev left fault status same told is =
    subst (λ (h : Open). OpensAs how h (Device left) status) (sym same) (fault, told, is)

module _ {D B : Type 0} (left dev : D) (fault : Fault) where
  abbrev refusal_in : Result B (D × Fault) → D × Fault
  refusal_in (Ok db) = (left, fault)
  refusal_in (Err e) = e

  -- what is refused before the device is called is so refused
  pub early_so : (first : Option Fault) (result : Result B (D × Fault))
      → IfSome first (λ f. result ≡ Err (dev, f)) → result ≡ Err (left, fault)
      → (early : Fault) → first ≡ Some early → (fault ≡ early) × (left ≡ dev)
  early_so first result told is early some =
      let both = ap refusal_in
      (sym is ∙ subst (λ (o : Option Fault). IfSome o (λ f. result ≡ Err (dev, f))) some told) in
      (ap (λ (e : D × Fault). e.1) both, ap (λ (e : D × Fault). e.0) both)
