-- What is said at the exit of a `?`: of any call first, then where a fault of the store is passed
-- on.
use Rattle.std.proofs.Common.{◌≡◌, ℕ, ◌≤◌, ◌⊎◌, inl, inr, ◌↔◌, Bool, true, false, Result, Ok, Err, OnErr, IfErr, ⊎_elim, refl, sym, ap, ◌∙◌, subst, arith}
use Rattle.std.specs.Prelude.{IsErrOf}
use Rattle.std.specs.Result.{IsErrAnd}
use Rattle.sect_dev.specs.Device.{MoreFaults}
use Rattle.page_io.specs.Answers.{HasDeviceCause, IsStageAnswer}
use Rattle.page_io.specs.Store.{StoreState}
use Rattle.page_io.specs.declared.store.PageFault.{PageFault}
use Rattle.page_io.specs.declared.store.PageFault.TheVariants.{Memory, Device, Broken, NoRoom, Damaged}

-- ---- any result and fault

-- the result is the fault that came
pub exit_is : {T E : Type 0} (result : Result T E) (e : E) → IsErrAnd result (λ y. y ≡ e)
    → result ≡ Err e
exit_is (Ok x) e told = absurd told
exit_is (Err y) e told = ap Err told

-- the callee answered what is answered
pub came : {T U E : Type 0} (result : Result T E) (e : E) → result ≡ Err e → (fault : E)
    → IsErrOf result fault → IsErrOf {T = U} (Err e) fault
came result e exit fault is = let both = sym exit ∙ is in cc

-- what holds of the fault
pub if_exit : {T E : Type 0} (Q : E → Type 0) (result : Result T E) (e : E) → result ≡ Err e → Q e
    → IfErr result Q
if_exit Q result e exit q = subst (λ r. IfErr r Q) (sym exit) q

-- what holds at an error, where it holds anyway
pub at_error : {T E : Type 0} (result : Result T E) (P : Type 0) → P → OnErr result P
at_error (Ok x) P p = tt
at_error (Err e) P p = p

-- what was answered well is no fault
pub no_err : {T E P : Type 0} (x : T) (fault : E) → IsErrOf {T = T} (Ok x) fault → P
no_err x fault is = cc

-- counts of faults, one call after the other
pub later_then : (a b c : ℕ) → a ≤ b → b ≤ c → a ≤ c
later_then a b c one two = omega (arith, one, two)

pub more_later : (a b c : ℕ) → a ≤ b → MoreFaults b c → MoreFaults a c
more_later a b c le more = omega (arith, le, more)

-- what is the same before and after one call and the next
pub both_ways : {A B C : Type 0} → A ↔ B → B ↔ C → A ↔ C
both_ways one two = (λ a. two.0 (one.0 a), λ c. one.1 (two.1 c))

-- a flag is not both
pub not_both : {P : Type 0} (b : Bool) → b ≡ true → b ≡ false → P
not_both b on off = let both = sym on ∙ off in cc

-- ---- faults of the store

module _ {T U : Type 0} (result : Result T PageFault) (e : PageFault) (exit : result ≡ Err e) where
  -- of the device's faults, where the callee began after some other calls
  pub cause_then : (before mid now : ℕ) → before ≤ mid → HasDeviceCause {T = U} mid now (Err e)
      → HasDeviceCause before now result
  cause_then before mid now le cause = record {
    later = omega (arith, le, cause.later);
    fault = λ is. omega (arith, le, cause.fault (came {U = U} result e exit Device is));
  }

  -- where a page was to be staged, which asks no device
  pub cause_stage : (before mid now reserved n : ℕ) (state : StoreState) → before ≤ mid → now ≡ mid
      → IsStageAnswer {T = U} reserved state n (Err e) → HasDeviceCause before now result
  cause_stage before mid now reserved n state le same answer = record {
    later = omega (arith, le, same);
    fault = λ is. let device = came {U = U} result e exit Device is in
        absurd (⊎_elim (λ broken. let b : e ≡ Broken = broken in cc)
        (λ memory. let m : e ≡ Memory = memory in cc) answer.only);
  }

  pub cause_first : (before now : ℕ) → HasDeviceCause {T = U} before now (Err e)
      → HasDeviceCause before now result
  cause_first before now cause =
      record {
        later = cause.later;
        fault = λ is.
            cause.fault (came {U = U} result e exit Device is);
      }

-- of the device's faults, where all calls went well
pub cause_ok : {T : Type 0} (before now : ℕ) (x : T) → before ≤ now
    → HasDeviceCause {T = T} before now (Ok x)
cause_ok before now x le = record { later = le; fault = λ is. cc }

-- where the result of the last call is returned
pub cause_last : {T : Type 0} (before mid now : ℕ) (result : Result T PageFault) → before ≤ mid
    → HasDeviceCause mid now result → HasDeviceCause before now result
cause_last before mid now result le cause = record {
  later = omega (arith, le, cause.later);
  fault = λ is. omega (arith, le, cause.fault is);
}

-- a stage is not refused so
stage_answers : (e fault : PageFault) → (Broken ≡ fault → ⊥) → (Memory ≡ fault → ⊥)
    → (e ≡ Broken) ⊎ (e ≡ Memory) → e ≡ fault → ⊥
stage_answers e fault one two (inl is) same = one (sym is ∙ same)
stage_answers e fault one two (inr is) same = two (sym is ∙ same)

module _ {T : Type 0} (reserved n : ℕ) (state : StoreState) (e : PageFault)
    (answer : IsStageAnswer {T = T} reserved state n (Err e)) where
  pub stage_not_damaged : IsErrOf {T = T} (Err e) Damaged → ⊥
  stage_not_damaged is = stage_answers e Damaged (λ same. cc) (λ same. cc) answer.only cc

  pub stage_has_room : IsErrOf {T = T} (Err e) NoRoom → ⊥
  stage_has_room is = stage_answers e NoRoom (λ same. cc) (λ same. cc) answer.only cc

-- where the result of the last stage is returned
module _ {T : Type 0} (reserved n : ℕ) (state : StoreState) where
  pub cause_stage_last : (before mid now : ℕ) (result : Result T PageFault) → before ≤ mid
      → now ≡ mid → IsStageAnswer reserved state n result → HasDeviceCause before now result
  cause_stage_last before mid now (Ok x) le same answer =
      record { later = omega (arith, le, same); fault = λ is. cc }
  cause_stage_last before mid now (Err e) le same answer =
      cause_stage {U = T} (Err e) e refl before mid now reserved n state le same answer

  pub last_not_damaged : (result : Result T PageFault) → IsStageAnswer reserved state n result
      → IsErrOf result Damaged → ⊥
  last_not_damaged (Ok x) answer is = cc
  last_not_damaged (Err e) answer is = stage_not_damaged reserved n state e answer is

  pub last_has_room : (result : Result T PageFault) → IsStageAnswer reserved state n result
      → IsErrOf result NoRoom → ⊥
  last_has_room (Ok x) answer is = cc
  last_has_room (Err e) answer is = stage_has_room reserved n state e answer is
