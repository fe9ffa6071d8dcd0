-- How often a page stands in a list.
use Rattle.std.proofs.Common.{◌≡◌, ℕ, ◌+◌, ◌==◌, Bool, cond, List, [], ◌∷◌, ◌++◌, ne_eqb, sym, ap, arith}
use Rattle.std.proofs.lemmas.List.Sums.{sum_by-append, sum_by-cons}
use Rattle.page_model.specs.Space.{times_of}

pub times_both : (m : ℕ) (xs ys : List ℕ) → times_of m (xs ++ ys) ≡ times_of m xs + times_of m ys
times_both m xs ys = sum_by-append (λ (k : ℕ). cond (k == m) 1 0) xs ys

-- not where it is another page
pub times_other : (m n : ℕ) → (m ≡ n → ⊥) → times_of m (n ∷ []) ≡ 0
times_other m n other =
    let not_it : cond {A = ℕ} (n == m) 1 0 ≡ 0 =
    ap (λ (b : Bool). cond b 1 0) (ne_eqb n m (λ same. other (sym same))) in
    omega (arith, not_it, sum_by-cons (λ (k : ℕ). cond (k == m) 1 0) n [])
