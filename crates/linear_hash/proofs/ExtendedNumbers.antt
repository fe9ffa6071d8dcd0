-- Numbers of pages where a bucket is added: lists of them, and the free ones.
use Rattle.std.proofs.Common.{◌≡◌, ℕ, zero, suc, ◌+◌, ◌/◌, ◌%◌, ◌<◌, ◌≤◌, ◌==◌, Bool, true, false, cond, List, [], ◌∷◌, ◌++◌, length, drop, get_or, refl, sym, arith, eqb-true, eq-eqb, append-nil}
use Rattle.std.proofs.lemmas.Bool.{eqb-false, ne_eqb}
use Rattle.std.proofs.lemmas.Bool.Decides.{nat_tests}
use Rattle.std.proofs.lemmas.List.Sums.{sum_by-cons}
use Rattle.dbm_model.specs.Sizes.{segments_for}
use Rattle.page_model.specs.Pages.{Body}
use Rattle.page_model.specs.Space.{Space, next_page, after_take, times_of}
use Rattle.page_model.specs.PageBodies.{free_bodies, AreRead}
use Rattle.page_model.proofs.Spaces.{times_head}
use Rattle.seg_table.specs.Heads.{with_head}

-- the page that is taken was the first free one or the one at the end
pub free_split : (n : ℕ) (s : Space)
    → times_of n s.free ≤ times_of n (next_page s ∷ []) + times_of n (after_take s).free
free_split n s = by_free s.free s.end where
  by_free : (free : List ℕ) (end : ℕ)
      → times_of n free ≤ times_of n (next_page (record { free = free; end = end }) ∷ [])
      + times_of n (after_take (record { free = free; end = end })).free
  by_free [] end = omega arith
  by_free (m ∷ rest) end = let f : ℕ → ℕ = λ k. cond (k == n) 1 0 in
      omega (arith, sum_by-cons f m rest, sum_by-cons f m [])

-- the others are read as they were
pub free_rest : (at : ℕ → Body) (s : Space) → AreRead at (free_bodies s.free)
    → AreRead at (free_bodies (after_take s).free)
free_rest at s = by_free s.free s.end where
  by_free : (free : List ℕ) (end : ℕ) → AreRead at (free_bodies free)
      → AreRead at (free_bodies (after_take (record { free = free; end = end })).free)
  by_free [] end read = tt
  by_free (m ∷ rest) end read = read.1

pub end_some : (s : Space) → 1 ≤ s.end → 1 ≤ (after_take s).end
end_some s = by_free s.free s.end where
  by_free : (free : List ℕ) (end : ℕ) → 1 ≤ end
      → 1 ≤ (after_take (record { free = free; end = end })).end
  by_free [] end some = omega arith
  by_free (m ∷ rest) end some = some

-- the last of a list stands in what is left of it
pub last_there : (i : ℕ) (ns : List ℕ) → i < length ns → 1 ≤ times_of (get_or ns i 0) (drop i ns)
last_there i [] lt = absurd (omega arith)
last_there zero (n ∷ rest) lt = omega (arith, times_head n rest)
last_there (suc i) (n ∷ rest) lt = last_there i rest (omega arith)

-- a number behind a list is left of it
pub last_behind : (m n : ℕ) (ns : List ℕ)
    → times_of m (n ∷ []) ≤ times_of m (drop (length ns) (ns ++ n ∷ []))
last_behind m n [] = omega arith
last_behind m n (k ∷ rest) = last_behind m n rest

-- a segment is begun for the same buckets
pub extends_same : (b k : ℕ) → k ≡ segments_for b → (b / 508 == k) ≡ (b % 508 == 0)
extends_same b k e = elim (b % 508 == 0) as (λ t. (b % 508 == 0) ≡ t → (b / 508 == k) ≡ t) [
  | true ↦ λ t. let z = eqb-true _ _ t in eq-eqb (b / 508) k (omega arith)
  | false ↦ λ t. let z : b % 508 ≡ 0 → ⊥ = eqb-false _ _ t in
      ne_eqb (b / 508) k (λ same. omega arith)
] refl

pub one_more : (t : Bool) (ns : List ℕ) (n : ℕ)
    → cond t (ns ++ n ∷ []) ns ≡ ns ++ cond t (n ∷ []) []
one_more true ns n = refl
one_more false ns n = sym (append-nil ns)

-- the next bucket's head stands behind the others
pub head_behind : (heads : List ℕ) (b head : ℕ) → b ≡ length heads
    → with_head heads b head ≡ heads ++ head ∷ []
head_behind heads b head same = grind (arith, nat_tests)
