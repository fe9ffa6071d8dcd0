-- Taking and giving pages keeps each page in one place.
use Rattle.std.proofs.Common.{◌≡◌, ℕ, zero, suc, ◌+◌, ◌≤◌, ◌==◌, cond, List, [], ◌∷◌, ◌++◌, length, reverse, sum_by, eq-eqb, refl, ap, ◌∙◌, arith}
use Rattle.std.proofs.lemmas.List.Sums.{sum_by-append, sum_by-cons}
use Rattle.std.proofs.lemmas.List.Sorted.{IsPermutation-reverse, sum_by-IsPermutation}
use Rattle.std.proofs.lemmas.Bool.Decides.{nat_tests}
use Rattle.page_model.specs.Space.{Space, next_page, next_pages, after_take, after_takes, give, is_page, times_of, IsExact}
use Rattle.page_model.proofs.PairLists.{length-sum_by}

-- a number in front of a list
pub times_head : (n : ℕ) (ns : List ℕ) → times_of n (n ∷ ns) ≡ 1 + times_of n ns
times_head n ns = sum_by-cons (λ m. cond (m == n) 1 0) n ns
    ∙ ap (λ b. cond b 1 0 + times_of n ns) (eq-eqb n n refl)

pub times_tail : (n m : ℕ) (ns : List ℕ) → times_of n ns ≤ times_of n (m ∷ ns)
times_tail n m ns = omega (arith, sum_by-cons (λ k. cond (k == n) 1 0) m ns)

-- a further page at the end
one_page_more : (n end : ℕ) → 1 ≤ end
    → cond (is_page n (end + 1)) 1 0 ≡ cond (is_page n end) 1 0 + cond (end == n) 1 0
one_page_more n end h = grind (arith, nat_tests)

-- ys is what was in use, and the page that is taken
pub IsExact-take : (xs ys : List ℕ) (s : Space)
    → ((f : ℕ → ℕ) → sum_by f ys ≡ sum_by f xs + f (next_page s)) → IsExact xs s
    → IsExact ys (after_take s)
IsExact-take xs ys s same h = by_free s.free s.end (h.once) (h.as_many) same where
  by_free : (free : List ℕ) (end : ℕ)
      → ((n : ℕ) → times_of n xs + times_of n free ≡ cond (is_page n end) 1 0)
      → length xs + length free + 1 ≡ end →
      ((f : ℕ → ℕ) → sum_by f ys ≡ sum_by f xs + f (next_page (record { free = free; end = end })))
      → IsExact ys (after_take (record { free = free; end = end }))
  by_free [] end once many same = record {
    once = λ n. let a = once n in let b = same (λ m. cond (m == n) 1 0) in let c =
        one_page_more n end (omega arith) in omega arith;
    as_many = let a = same (λ _. 1) in let b = length-sum_by xs in let c =
        length-sum_by ys in omega arith;
  }
  by_free (m ∷ rest) end once many same = record {
    once = λ n. let a = once n in let b = same (λ m. cond (m == n) 1 0) in let c =
        sum_by-cons (λ m. cond (m == n) 1 0) m rest in omega arith;
    as_many = let a = same (λ _. 1) in let b = length-sum_by xs in let c =
        length-sum_by ys in omega arith;
  }

-- ys is what stays in use where the pages are given
pub IsExact-give : (xs ys pages : List ℕ) (s : Space)
    → ((f : ℕ → ℕ) → sum_by f ys + sum_by f pages ≡ sum_by f xs) → IsExact xs s
    → IsExact ys (give pages s)
IsExact-give xs ys pages s same h =
    let all : (f : ℕ → ℕ) → sum_by f (reverse pages ++ s.free) ≡ sum_by f pages + sum_by f s.free
    = λ (f : ℕ → ℕ). sum_by-append f (reverse pages) s.free
    ∙ ap (λ n. n + sum_by f s.free)
    (sum_by-IsPermutation f pages (reverse pages) (IsPermutation-reverse pages)) in
    record {
      once = λ n. let f : ℕ → ℕ = λ m. cond (m == n) 1 0 in let a = h.once n in let b = same f in
          let c = all f in omega arith;
      as_many = let f : ℕ → ℕ = λ m. 1 in let a = h.as_many in let b = same f in let c = all f in
          let d = length-sum_by (reverse pages ++ s.free) in let e = length-sum_by ys in let g =
          length-sum_by xs in let i = length-sum_by s.free in omega arith;
    }

pub IsExact-same : (xs ys : List ℕ) (s : Space) → ((f : ℕ → ℕ) → sum_by f ys ≡ sum_by f xs)
    → IsExact xs s → IsExact ys s
IsExact-same xs ys s same h = record {
  once = λ n. let a = h.once n in let b = same (λ m. cond (m == n) 1 0) in omega arith;
  as_many = let a = h.as_many in let b = same (λ _. 1) in let c = length-sum_by xs in let d =
      length-sum_by ys in omega arith;
}

-- so many pages are taken
pub length-next_pages : (k : ℕ) (s : Space) → length (next_pages k s) ≡ k
length-next_pages zero s = refl
length-next_pages (suc k) s = ap suc (length-next_pages k (after_take s))

pub IsExact-takes : (k : ℕ) (xs : List ℕ) (s : Space) → IsExact xs s
    → IsExact (next_pages k s ++ xs) (after_takes k s)
IsExact-takes zero xs s h = h
IsExact-takes (suc k) xs s h =
    let later = next_pages k (after_take s) in
    IsExact-same (later ++ (next_page s ∷ xs)) ((next_page s ∷ later) ++ xs)
    (after_takes k (after_take s))
    (λ f. let a = sum_by-append f later (next_page s ∷ xs) in
    let b = sum_by-append f (next_page s ∷ later) xs in
    let c = sum_by-cons f (next_page s) xs in let d = sum_by-cons f (next_page s) later in omega arith)
    (IsExact-takes k (next_page s ∷ xs) (after_take s)
    (IsExact-take xs (next_page s ∷ xs) s
    (λ f. let a = sum_by-cons f (next_page s) xs in omega arith) h))
