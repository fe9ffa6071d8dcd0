-- A change that is staged and then committed.
use Rattle.std.proofs.Common.{◌≡◌, ℕ, Result, Ok, Err, IfOk, IfErr, OnOk}
use Rattle.page_io.specs.declared.store.PageFault.{PageFault}

-- what was staged and then committed
pub commit_ok : {P Q : ℕ → Type 0} {R : Type 0} (A : PageFault → Type 0) (r : Result ℕ PageFault)
    (result : Result Unit PageFault) → IfErr r (λ e. (result ≡ Err e) × A e) → IfOk r P
    → IfOk r (λ end. OnOk result (Q end)) → ((end : ℕ) → P end → Q end → R) → OnOk result R
commit_ok A (Ok end) (Ok x) refused p q then = then end p q
commit_ok A (Ok end) (Err e) refused p q then = tt
commit_ok A (Err e) (Ok x) refused p q then = let both = refused.0 in absurd cc
commit_ok A (Err e) (Err f) refused p q then = tt
