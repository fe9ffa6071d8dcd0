-- Facts of each outcome of a call.
use Rattle.std.proofs.Common.{◌≡◌, ◌∙◌, sym, subst, refl, false, IsTrue, Result, Ok, Err, is_ok, IfOk, OnOk, OnErr}
use Rattle.std.proofs.lemmas.Bool.{true≢false}

pub if_ok_all : {T E : Type 0} (r : Result T E) (P : T → Type 0) → ((x : T) → P x) → IfOk r P
if_ok_all (Ok x) P all = all x
if_ok_all (Err e) P all = tt

pub at_ok : {T E : Type 0} (r : Result T E) (P : T → Type 0) (x : T) → r ≡ Ok x → IfOk r P → P x
at_ok r P x is holds = subst (λ s. IfOk s P) is holds

pub on_ok : {T E : Type 0} (r : Result T E) (P : Type 0) → (IsTrue (is_ok r) → P) → OnOk r P
on_ok (Ok x) P is = is refl
on_ok (Err e) P is = tt

pub on_err : {T E : Type 0} (r : Result T E) (P : Type 0) → (is_ok r ≡ false → P) → OnErr r P
on_err (Ok x) P is = tt
on_err (Err e) P is = is refl

-- of a call that failed
pub not_ok : {T E : Type 0} (r : Result T E) (P : Type 0) → is_ok r ≡ false → OnOk r P
not_ok r P failed = on_ok r P (λ is. absurd (true≢false (sym is ∙ failed)))
