-- What an answer carries, as `Ok` or as a fault.
use Rattle.std.proofs.Common.{◌≡◌, ◌≤◌, ℕ, Bool, true, false, sym, ◌∙◌, subst, Option, Some, None, IfSome, IfNone, IfOk, IfErr, Result, Ok, Err, refl, is_err, OnOk, OnErr, arith}
use denote.Enum.Bare.{sameb, same_false}
use Rattle.std.specs.Prelude.{IsErrOf}
use Rattle.sect_dev.specs.Device.{HasCause}
use Rattle.page_io.proofs.Exits.{more_later}
use Rattle.redo_area.specs.contracts.open_fault.OpenFault.{the_type}
use Rattle.redo_area.specs.declared.open_fault.OpenFault.{OpenFault}

from_ok : {T E P : Type 0} (r : Result T E) → is_err r ≡ false → OnOk r P → P
from_ok (Ok x) ok p = p
from_ok (Err e) ok p = cc

-- where a test for `Err` answered no
pub from_test : {T E P : Type 0} (r : Result T E) {b : Bool} → b ≡ is_err r
    → b ≡ false → OnOk r P → P
from_test r is fails p = from_ok r (sym is ∙ fails) p

from_err : {T E P : Type 0} (r : Result T E) → is_err r ≡ true → OnErr r P → P
from_err (Ok x) err p = cc
from_err (Err e) err p = p

-- where it answered yes
pub fault_from_test : {T E P : Type 0} (r : Result T E) {b : Bool} → b ≡ is_err r → b ≡ true
    → OnErr r P → P
fault_from_test r is holds p = from_err r (sym is ∙ holds) p

-- one fault of opening is no other: at two of them the test is `refl`
pub other_fault : {T P : Type 0} (e fault : OpenFault) → sameb the_type e fault ≡ false
    → IsErrOf {T = T} (Err e) fault → P
other_fault e fault apart is =
    absurd (same_false the_type e fault apart (let same : e ≡ fault = cc in same))

-- the device's faults, some calls before
pub cause_after : {T U E : Type 0} (r : Result T E) (e : E) (a b c : ℕ) → a ≤ b
    → HasCause {T = U} b c (Err e) → HasCause a c r
cause_after (Ok x) e a b c le cause = record { later = omega (arith, le, cause.later); fault = tt }
cause_after (Err y) e a b c le cause = record
    { later = omega (arith, le, cause.later); fault = more_later a b c le cause.fault }

pub cause_first : {T U E : Type 0} (r : Result T E) (e : E) (b c : ℕ)
    → HasCause {T = U} b c (Err e) → HasCause b c r
cause_first (Ok x) e b c cause = record { later = cause.later; fault = tt }
cause_first (Err y) e b c cause = record { later = cause.later; fault = cause.fault }

pub cause_ok : {T E : Type 0} (x : T) (a c : ℕ) → a ≤ c → HasCause {T = T} {E = E} a c (Ok x)
cause_ok x a c le = record { later = le; fault = tt }

pub map_ok : {T E P Q : Type 0} (r : Result T E) → OnOk r P → (P → Q) → OnOk r Q
map_ok (Ok x) p then = then p
map_ok (Err e) p then = tt

-- what holds of an answer that there is, and of none
pub from_some : {T : Type 0} (P : T → Type 0) (answer : Option T) (x : T) → answer ≡ Some x
    → IfSome answer P → P x
from_some {T} P answer x is p = subst (λ (a : Option T). IfSome a P) is p

pub from_none : {T P : Type 0} (answer : Option T) → answer ≡ None → IfNone answer P → P
from_none {T} {P} answer is p = subst (λ (a : Option T). IfNone a P) is p

-- what holds of what was answered well, and of each fault
pub ok_then : {T E : Type 0} (P Q : T → Type 0) (r : Result T E) → IfOk r P
    → ((x : T) → P x → Q x) → IfOk r Q
ok_then P Q (Ok x) p then = then x p
ok_then P Q (Err e) p then = tt

pub err_then : {T E : Type 0} (P Q : E → Type 0) (r : Result T E) → IfErr r P
    → ((e : E) → r ≡ Err e → P e → Q e) → IfErr r Q
err_then P Q (Ok x) p then = tt
err_then P Q (Err e) p then = then e refl p

-- what holds of an answer where there is one, and of none
pub some_then : {T : Type 0} {P Q : T → Type 0} (answer : Option T) → IfSome answer P
    → ((x : T) → P x → Q x) → IfSome answer Q
some_then (Some x) p then = then x p
some_then None p then = tt

pub none_then : {T P Q : Type 0} (answer : Option T) → IfNone answer P → (P → Q)
    → IfNone answer Q
none_then (Some x) p then = tt
none_then None p then = then p
