-- Refusals by the pages below, as a store or a delete tells them.
use Rattle.std.proofs.Common.{◌≡◌, ◌⊎◌, inl, inr, Result, Ok, Err, refl, sym, ◌∙◌, subst}
use Rattle.std.specs.Prelude.{IsErrAnd, IfErr}
use Rattle.page_io.specs.declared.store.PageFault.{PageFault}
use Rattle.page_io.specs.declared.store.PageFault.TheVariants as page
use Rattle.dbm_fault.specs.Among.{IsAmong}
use Rattle.dbm_fault.specs.Faults.{fault_from}
use Rattle.dbm_fault.specs.declared.fault.Fault.{Fault}
use Rattle.dbm_fault.specs.declared.fault.Fault.TheVariants.{Memory, Device, Broken, ReadOnly, TooLong, NoRoom, Damaged}
use Rattle.dbm_file.specs.Replies.{store_faults, delete_faults}

-- what is refused for another reason isn't refused for this one
pub told_other : {T : Type 0} (r : Result T Fault) (e : PageFault) (other : Fault)
    → IsErrAnd r (λ fault. fault ≡ fault_from e) → (fault_from e ≡ other → ⊥) → r ≡ Err other → ⊥
told_other (Ok value) e other told is_not is = absurd told
told_other (Err fault) e other told is_not is =
    is_not (sym told ∙ (let same = is in let f : fault ≡ other = cc in f))

-- the fault that was told
pub told_is : {T : Type 0} (r : Result T Fault) (e : PageFault) (other : Fault)
    → IsErrAnd r (λ fault. fault ≡ fault_from e) → r ≡ Err other → fault_from e ≡ other
told_is (Ok value) e other told is = absurd told
told_is (Err fault) e other told is =
    sym told ∙ (let same = is in let f : fault ≡ other = cc in f)

-- a refusal is no value
pub refused_is_none : {T P : Type 0} (r : Result T Fault) (fault : Fault) (value : T)
    → r ≡ Err fault → r ≡ Ok value → P
refused_is_none r fault value refused is = absurd (let x = sym refused ∙ is in cc)

pub told_by : {T : Type 0} (P : Fault → Type 0) (r : Result T Fault) (e : PageFault)
    → IsErrAnd r (λ fault. fault ≡ fault_from e) → P (fault_from e) → IfErr r P
told_by P (Ok value) e told holds = absurd told
told_by P (Err fault) e told holds = subst P (sym told) holds

pub told_no_value : {T : Type 0} (r : Result T Fault) (e : PageFault) (value : T)
    → IsErrAnd r (λ fault. fault ≡ fault_from e) → r ≡ Ok value → ⊥
told_no_value (Ok other) e value told is = told
told_no_value (Err fault) e value told is = absurd (let same = is in cc)

-- the faults of a walk, and of a change
abbrev pub IsOfWalk : PageFault → Type 0
IsOfWalk e = (e ≡ page.Broken) ⊎ ((e ≡ page.Damaged) ⊎ (e ≡ page.Device))

abbrev pub IsOfChange : PageFault → Type 0
IsOfChange e = (e ≡ page.Broken)
    ⊎ ((e ≡ page.Memory) ⊎ ((e ≡ page.NoRoom) ⊎ ((e ≡ page.Damaged) ⊎ (e ≡ page.Device))))

pub as_change : (e : PageFault) → IsOfWalk e → IsOfChange e
as_change e (inl is) = inl is
as_change e (inr (inl is)) = inr (inr (inr (inl is)))
as_change e (inr (inr is)) = inr (inr (inr (inr is)))

-- by cases of the fault of the pages
by_change : (P : Fault → Type 0) → P Broken → P Memory → P NoRoom → P Damaged → P Device
    → (e : PageFault) → IsOfChange e → P (fault_from e)
by_change P broken memory no_room damaged device e (inl is) =
    subst (λ (x : PageFault). P (fault_from x)) (sym is) broken
by_change P broken memory no_room damaged device e (inr (inl is)) =
    subst (λ (x : PageFault). P (fault_from x)) (sym is) memory
by_change P broken memory no_room damaged device e (inr (inr (inl is))) =
    subst (λ (x : PageFault). P (fault_from x)) (sym is) no_room
by_change P broken memory no_room damaged device e (inr (inr (inr (inl is)))) =
    subst (λ (x : PageFault). P (fault_from x)) (sym is) damaged
by_change P broken memory no_room damaged device e (inr (inr (inr (inr is)))) =
    subst (λ (x : PageFault). P (fault_from x)) (sym is) device

pub among_store : (e : PageFault) → IsOfChange e → IsAmong (fault_from e) store_faults
among_store = by_change (λ fault. IsAmong fault store_faults) (inl refl)
    (inr (inr (inr (inr (inl refl))))) (inr (inr (inr (inr (inr (inr (inl refl)))))))
    (inr (inr (inr (inr (inr (inr (inr refl))))))) (inr (inr (inr (inr (inr (inl refl))))))

pub told_memory : (e : PageFault) → fault_from e ≡ Memory → e ≡ page.Memory
told_memory page.Memory is = refl
told_memory page.Device is = absurd (let x = is in cc)
told_memory page.Broken is = absurd (let x = is in cc)
told_memory page.ReadOnly is = absurd (let x = is in cc)
told_memory page.NoRoom is = absurd (let x = is in cc)
told_memory page.Damaged is = absurd (let x = is in cc)

pub among_delete : (e : PageFault) → IsOfChange e → IsAmong (fault_from e) delete_faults
among_delete = by_change (λ fault. IsAmong fault delete_faults) (inl refl)
    (inr (inr (inl refl))) (inr (inr (inr (inr (inl refl)))))
    (inr (inr (inr (inr (inr refl))))) (inr (inr (inr (inl refl))))

-- a walk takes no memory
pub walk_no_memory : (e : PageFault) → IsOfWalk e → e ≡ page.Memory → ⊥
walk_no_memory e (inl broken) is = let x = sym broken ∙ is in absurd cc
walk_no_memory e (inr (inl damaged)) is = let x = sym damaged ∙ is in absurd cc
walk_no_memory e (inr (inr device)) is = let x = sym device ∙ is in absurd cc

pub not_read_only : (e : PageFault) → IsOfChange e → fault_from e ≡ ReadOnly → ⊥
not_read_only = by_change (λ fault. fault ≡ ReadOnly → ⊥) (λ is. absurd (let x = is in cc))
    (λ is. absurd (let x = is in cc)) (λ is. absurd (let x = is in cc))
    (λ is. absurd (let x = is in cc)) (λ is. absurd (let x = is in cc))

pub never_too_long : (e : PageFault) → fault_from e ≡ TooLong → ⊥
never_too_long page.Memory is = absurd (let x = is in cc)
never_too_long page.Device is = absurd (let x = is in cc)
never_too_long page.Broken is = absurd (let x = is in cc)
never_too_long page.ReadOnly is = absurd (let x = is in cc)
never_too_long page.NoRoom is = absurd (let x = is in cc)
never_too_long page.Damaged is = absurd (let x = is in cc)
