-- Each page in one place, as a permutation of the numbers.
use Rattle.std.proofs.Common.{◌≡◌, ℕ, zero, suc, ◌+◌, ◌-◌, ◌≤◌, ◌==◌, ◌&&◌, true, false, cond, leb, ltb, List, [], ◌∷◌, ◌++◌, length, IsPermutation, refl, sym, ap, ◌∙◌, subst, arith, eqb-true, length-append}
use Rattle.std.specs.List.{range_with_len}
use Rattle.std.proofs.lemmas.List.Sums.{sum_by-append, sum_by-cons}
use Rattle.std.proofs.lemmas.List.Sorted.{IsPermutation-refl, IsPermutation-cons, IsPermutation-trans, IsPermutation-sym, IsPermutation-middle, sum_by-IsPermutation, length_permutation}
use Rattle.page_model.specs.Space.{is_page, times_of}
use Rattle.page_model.specs.PlacementLaws.{OnceIsPermutation}
use Rattle.page_model.proofs.Spaces.{times_head}
use Rattle.page_model.proofs.Flat.{minus, times-range_with_len}

IsPermutation-minus : (n : ℕ) (ms : List ℕ) → 1 ≤ times_of n ms → IsPermutation (n ∷ minus n ms) ms
unfolding minus
IsPermutation-minus n [] h = absurd (omega arith)
IsPermutation-minus n (m ∷ ms) h =
    elim (m == n) as (λ b. (m == n) ≡ b → times_of n (m ∷ ms) ≡ cond b 1 0 + times_of n ms
    → IsPermutation (n ∷ cond b ms (m ∷ minus n ms)) (m ∷ ms)) [
      | true ↦ λ t c. subst (λ k. IsPermutation (k ∷ ms) (m ∷ ms)) (eqb-true m n t)
          (IsPermutation-refl (m ∷ ms))
      | false ↦ λ t c. IsPermutation-trans (n ∷ m ∷ minus n ms) (m ∷ n ∷ minus n ms) (m ∷ ms)
          (IsPermutation-sym (m ∷ n ∷ minus n ms) (n ∷ m ∷ minus n ms)
          (IsPermutation-middle (m ∷ []) n (minus n ms)))
          (IsPermutation-cons m (n ∷ minus n ms) ms (IsPermutation-minus n ms (omega arith)))
    ] refl (sum_by-cons (λ k. cond (k == n) 1 0) m ms)

times_minus : (x : ℕ) (xs ys : List ℕ) → ((n : ℕ) → times_of n (x ∷ xs) ≡ times_of n ys)
    → 1 ≤ times_of x ys → (n : ℕ) → times_of n xs ≡ times_of n (minus x ys)
times_minus x xs ys h there n =
    let a = h n in let b = sum_by-cons (λ k. cond (k == n) 1 0) x xs in
    let c = sum_by-IsPermutation (λ k. cond (k == n) 1 0) (x ∷ minus x ys) ys
    (IsPermutation-minus x ys there) in
    let d = sum_by-cons (λ k. cond (k == n) 1 0) x (minus x ys) in
    omega arith

IsPermutation-from_times : (xs ys : List ℕ) → ((n : ℕ) → times_of n xs ≡ times_of n ys)
    → IsPermutation xs ys
IsPermutation-from_times [] [] h = IsPermutation-refl []
IsPermutation-from_times [] (y ∷ ys) h =
    absurd (let a = h y in let b = times_head y ys in omega arith)
IsPermutation-from_times (x ∷ xs) ys h =
    let there : 1 ≤ times_of x ys = (let a = h x in let b = times_head x xs in omega arith) in
    IsPermutation-trans (x ∷ xs) (x ∷ minus x ys) ys
    (IsPermutation-cons x xs (minus x ys)
    (IsPermutation-from_times xs (minus x ys) (times_minus x xs ys h there)))
    (IsPermutation-minus x ys there)

range_times : (n end : ℕ) → 1 ≤ end → times_of n (range_with_len 1 (end - 1)) ≡ cond (is_page n end) 1 0
range_times n end l = let e : 1 + (end - 1) ≡ end = omega arith in
    times-range_with_len n 1 (end - 1) ∙ ap (λ k. cond (leb 1 n && ltb n k) 1 0) e

length-numbers_from : (start count : ℕ) → length (range_with_len start count) ≡ count
length-numbers_from start zero = refl
length-numbers_from start (suc count) = ap suc (length-numbers_from (start + 1) count)

pub once_permutation : OnceIsPermutation
once_permutation xs s l = (
  (λ h. IsPermutation-from_times (range_with_len 1 (s.end - 1)) (xs ++ s.free) (λ n.
      range_times n s.end l ∙ sym (h.once n)
      ∙ sym (sum_by-append (λ m. cond (m == n) 1 0) xs s.free))),
  (λ h. record {
    once = λ n. sym (sum_by-append (λ m. cond (m == n) 1 0) xs s.free)
        ∙ sum_by-IsPermutation (λ m. cond (m == n) 1 0) (range_with_len 1 (s.end - 1))
        (xs ++ s.free) h ∙ range_times n s.end l;
    as_many = (let a = length_permutation (range_with_len 1 (s.end - 1)) (xs ++ s.free) h in let b =
        length-append xs s.free in let c = length-numbers_from 1 (s.end - 1) in omega arith);
  }),
)
