-- Lists of heads: one head set, and zeros at the end left out.
use Rattle.std.proofs.Common.{◌≡◌, ℕ, zero, suc, ◌+◌, ◌<◌, ◌≤◌, Bool, true, false, cond, eqb, nat_lt, List, [], ◌∷◌, ◌++◌, length, get_or, set, take, drop, refl, ap, ◌∙◌, arith, inl, inr}
use Rattle.std.specs.List.{AllByRecursion}
use Rattle.std.proofs.lemmas.Bool.{cases_lt}
use Rattle.std.proofs.lemmas.Bool.Decides.{nat_tests}
use Rattle.page_model.specs.Reading.{in_front, trimmed}
use Rattle.seg_table.specs.Heads.{with_head}

-- `with_head` by recursion
abbrev pub put : List ℕ → ℕ → ℕ → List ℕ
put [] i head = head ∷ []
put (n ∷ ns) zero head = head ∷ ns
put (n ∷ ns) (suc i) head = n ∷ put ns i head

set-put : (ns : List ℕ) (i head : ℕ) → i < length ns → set ns i head ≡ put ns i head
set-put [] i head lt = absurd (omega arith)
set-put (n ∷ ns) zero head lt = refl
set-put (n ∷ ns) (suc i) head lt = ap (λ (xs : List ℕ). n ∷ xs) (set-put ns i head (omega arith))

pub append-put : (ns : List ℕ) (i head : ℕ) → i ≡ length ns → ns ++ head ∷ [] ≡ put ns i head
append-put [] i head e = refl
append-put (n ∷ ns) zero head e = absurd (omega arith)
append-put (n ∷ ns) (suc i) head e =
    ap (λ (xs : List ℕ). n ∷ xs) (append-put ns i head (omega arith))

pub with_head-put : (ns : List ℕ) (i head : ℕ) → i ≤ length ns → with_head ns i head ≡ put ns i head
with_head-put ns i head le = elim (cases_lt i (length ns)) [
  | inl lt ↦ let test : nat_lt i (length ns) ≡ true = grind (arith, nat_tests) in
      ap (λ (t : Bool). cond t (set ns i head) (ns ++ head ∷ [])) test ∙ set-put ns i head lt
  | inr ge ↦ let test : nat_lt i (length ns) ≡ false = grind (arith, nat_tests) in
      ap (λ (t : Bool). cond t (set ns i head) (ns ++ head ∷ [])) test
      ∙ append-put ns i head (omega arith)
]

-- the head is among the first w, or behind them

take_none : (w : ℕ) → take {A = ℕ} w [] ≡ []
take_none zero = refl
take_none (suc w) = refl

drop_none : (w : ℕ) → drop {A = ℕ} w [] ≡ []
drop_none zero = refl
drop_none (suc w) = refl

pub take-put : (w : ℕ) (ns : List ℕ) (i head : ℕ) → i < w → i ≤ length ns
    → take w (put ns i head) ≡ put (take w ns) i head
take-put zero ns i head lt le = absurd (omega arith)
take-put (suc w) [] i head lt le = ap (λ (xs : List ℕ). head ∷ xs) (take_none w)
take-put (suc w) (n ∷ ns) zero head lt le = refl
take-put (suc w) (n ∷ ns) (suc i) head lt le =
    ap (λ (xs : List ℕ). n ∷ xs) (take-put w ns i head (omega arith) (omega arith))

pub drop-put : (w : ℕ) (ns : List ℕ) (i head : ℕ) → i < w → i ≤ length ns
    → drop w (put ns i head) ≡ drop w ns
drop-put zero ns i head lt le = absurd (omega arith)
drop-put (suc w) [] i head lt le = drop_none w
drop-put (suc w) (n ∷ ns) zero head lt le = refl
drop-put (suc w) (n ∷ ns) (suc i) head lt le = drop-put w ns i head (omega arith) (omega arith)

pub take-put_behind : (w : ℕ) (ns : List ℕ) (k head : ℕ) → w ≤ k → k ≤ length ns
    → take w (put ns k head) ≡ take w ns
take-put_behind zero ns k head ge le = refl
take-put_behind (suc w) [] k head ge le = absurd (omega arith)
take-put_behind (suc w) (n ∷ ns) zero head ge le = absurd (omega arith)
take-put_behind (suc w) (n ∷ ns) (suc k) head ge le =
    ap (λ (xs : List ℕ). n ∷ xs) (take-put_behind w ns k head (omega arith) (omega arith))

pub drop-put_behind : (w : ℕ) (ns : List ℕ) (k i head : ℕ) → w + i ≡ k → k ≤ length ns
    → drop w (put ns k head) ≡ put (drop w ns) i head
drop-put_behind zero ns k i head e le =
    ap (λ (j : ℕ). put ns j head) (let same : k ≡ i = omega arith in same)
drop-put_behind (suc w) [] k i head e le = absurd (omega arith)
drop-put_behind (suc w) (n ∷ ns) zero i head e le = absurd (omega arith)
drop-put_behind (suc w) (n ∷ ns) (suc k) i head e le =
    drop-put_behind w ns k i head (omega arith) (omega arith)

pub length-put : (ns : List ℕ) (i head w : ℕ) → i < w → length ns ≤ w → length (put ns i head) ≤ w
length-put [] i head w lt le = omega arith
length-put (n ∷ ns) zero head w lt le = le
length-put (n ∷ ns) (suc i) head zero lt le = absurd (omega arith)
length-put (n ∷ ns) (suc i) head (suc w) lt le =
    omega (arith, length-put ns i head w (omega arith) (omega arith))

pub AllByRecursion-put : (P : ℕ → Type 0) (ns : List ℕ) (i head : ℕ) → AllByRecursion P ns → P head
    → AllByRecursion P (put ns i head)
AllByRecursion-put P [] i head all h = (h, tt)
AllByRecursion-put P (n ∷ ns) zero head all h = (h, all.1)
AllByRecursion-put P (n ∷ ns) (suc i) head all h = (all.0, AllByRecursion-put P ns i head all.1 h)

-- zeros at the end

no_zero : (n : ℕ) → 0 < n → eqb n 0 ≡ false
no_zero n lt = grind (arith, nat_tests)

-- a number that isn't 0 stays
in_front-some : (n : ℕ) (ns : List ℕ) → 0 < n → in_front n ns ≡ n ∷ ns
in_front-some n [] lt = ap (λ (t : Bool). cond t [] (n ∷ [])) (no_zero n lt)
in_front-some n (m ∷ ms) lt = refl

-- what is left behind a number is the list behind it
in_front-tail : (n : ℕ) (xs ns : List ℕ) → in_front n xs ≡ n ∷ ns → xs ≡ ns
in_front-tail n [] ns e = by_test (eqb n 0) e
  where
    by_test : (t : Bool) → cond t [] (n ∷ []) ≡ n ∷ ns → [] ≡ ns
    by_test true e = absurd cc
    by_test false e = cc
in_front-tail n (x ∷ xs) ns e = cc

in_front-put : (n : ℕ) (ns : List ℕ) (i head : ℕ) → in_front n (put ns i head) ≡ n ∷ put ns i head
in_front-put n [] i head = refl
in_front-put n (m ∷ ms) zero head = refl
in_front-put n (m ∷ ms) (suc i) head = refl

-- with a head that isn't 0, a trimmed list is trimmed again
pub trimmed-put : (ns : List ℕ) (i head : ℕ) → 0 < head → trimmed ns ≡ ns
    → trimmed (put ns i head) ≡ put ns i head
trimmed-put [] i head lt e = in_front-some head [] lt
trimmed-put (n ∷ ns) zero head lt e =
    ap (in_front head) (in_front-tail n (trimmed ns) ns e) ∙ in_front-some head ns lt
trimmed-put (n ∷ ns) (suc i) head lt e =
    ap (in_front n) (trimmed-put ns i head lt (in_front-tail n (trimmed ns) ns e))
    ∙ in_front-put n ns i head

in_front-again : (n : ℕ) (ns : List ℕ) → trimmed ns ≡ ns → trimmed (in_front n ns) ≡ in_front n ns
in_front-again n [] e = by_test (eqb n 0) refl
  where
    by_test : (t : Bool) → eqb n 0 ≡ t → trimmed (cond t [] (n ∷ [])) ≡ cond t [] (n ∷ [])
    by_test true is = refl
    by_test false is = ap (λ (t : Bool). cond t [] (n ∷ [])) is
in_front-again n (m ∷ ms) e = ap (in_front n) e

pub trimmed-again : (ns : List ℕ) → trimmed (trimmed ns) ≡ trimmed ns
trimmed-again [] = refl
trimmed-again (n ∷ ns) = in_front-again n (trimmed ns) (trimmed-again ns)

length-in_front : (n : ℕ) (ns : List ℕ) → length (in_front n ns) ≤ length ns + 1
length-in_front n [] = by_test (eqb n 0)
  where
    by_test : (t : Bool) → length (cond t [] (n ∷ [])) ≤ 1
    by_test true = omega arith
    by_test false = omega arith
length-in_front n (m ∷ ms) = omega arith

pub length-trimmed : (ns : List ℕ) → length (trimmed ns) ≤ length ns
length-trimmed [] = omega arith
length-trimmed (n ∷ ns) = omega (arith, length-in_front n (trimmed ns), length-trimmed ns)

pub AllByRecursion-trimmed : (P : ℕ → Type 0) (ns : List ℕ) → AllByRecursion P ns
    → AllByRecursion P (trimmed ns)
AllByRecursion-trimmed P [] all = tt
AllByRecursion-trimmed P (n ∷ ns) all = in_both (trimmed ns) (AllByRecursion-trimmed P ns all.1)
  where
    by_test : (t : Bool) → AllByRecursion P (cond t [] (n ∷ []))
    by_test true = tt
    by_test false = (all.0, tt)

    in_both : (xs : List ℕ) → AllByRecursion P xs → AllByRecursion P (in_front n xs)
    in_both [] h = by_test (eqb n 0)
    in_both (x ∷ xs) h = (all.0, h)

-- behind the last there is 0
pub get_or-trimmed : (ns : List ℕ) (i : ℕ) → get_or (trimmed ns) i 0 ≡ get_or ns i 0
get_or-trimmed [] i = refl
get_or-trimmed (n ∷ ns) i = in_place (trimmed ns) i (λ k. get_or-trimmed ns k)
  where
    by_test : (t : Bool) → eqb n 0 ≡ t → (i : ℕ)
        → get_or (cond t [] (n ∷ [])) i 0 ≡ get_or (n ∷ []) i 0
    by_test true is zero = grind (arith, nat_tests)
    by_test true is (suc i) = refl
    by_test false is i = refl

    in_place : (xs : List ℕ) (i : ℕ) → ((k : ℕ) → get_or xs k 0 ≡ get_or ns k 0)
        → get_or (in_front n xs) i 0 ≡ get_or (n ∷ ns) i 0
    in_place [] zero same = by_test (eqb n 0) refl zero
    in_place [] (suc i) same = by_test (eqb n 0) refl (suc i) ∙ same i
    in_place (x ∷ xs) zero same = refl
    in_place (x ∷ xs) (suc i) same = same i
