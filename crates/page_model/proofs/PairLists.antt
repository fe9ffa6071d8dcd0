-- Sums and look-ups over lists of lists.
use Rattle.std.proofs.Common.{◌≡◌, ◌≢◌, ℕ, zero, suc, ◌+◌, ◌<◌, ◌≤◌, Bool, true, false, cond, List, [], ◌∷◌, ◌++◌, length, filter, flat_map, get_or, set, sum_by, Option, None, Some, ◌⊎◌, inl, inr, ⊎_elim, refl, sym, ap, ◌∙◌, arith}
use Rattle.std.specs.Option.{option_or}
use Rattle.std.specs.FinMap.{find}
use Rattle.std.proofs.lemmas.List.Sums.{sum_by-append, sum_by-cons, sum_by-set}
use Rattle.std.proofs.lemmas.Bool.{cases_eq}
use Rattle.dbm_model.specs.Pairs.{Key, Pair, key_cmp}
use Rattle.page_model.specs.PairLists.{has_key, times}

-- the value of a key in a list
abbrev pub value_in : Key → List Pair → Option (List ℕ)
value_in key pairs = find key_cmp key pairs

or_assoc : {A : Type 0} (a b c : Option A)
    → option_or (option_or a b) c ≡ option_or a (option_or b c)
or_assoc None b c = refl
or_assoc (Some x) b c = refl

pub or_none : {A : Type 0} (a : Option A) → option_or a None ≡ a
or_none None = refl
or_none (Some x) = refl

pub value_in-cons : (q : Key) (pair : Pair) (xs : List Pair)
    → value_in q (pair ∷ xs) ≡ option_or (cond (has_key q pair) (Some pair.1) None) (value_in q xs)
value_in-cons q pair xs = elim (has_key q pair) as
    (λ b. cond b (Some pair.1) (value_in q xs)
    ≡ option_or (cond b (Some pair.1) None) (value_in q xs)) [ true ↦ refl | false ↦ refl ]

pub value_in-append : (q : Key) (xs ys : List Pair)
    → value_in q (xs ++ ys) ≡ option_or (value_in q xs) (value_in q ys)
value_in-append q [] ys = refl
value_in-append q (x ∷ xs) ys =
    ap (cond (has_key q x) (Some x.1)) (value_in-append q xs ys)
    ∙ elim (has_key q x) as (λ b.
    cond b (Some x.1) (option_or (value_in q xs) (value_in q ys))
    ≡ option_or (cond b (Some x.1) (value_in q xs)) (value_in q ys)) [
      | true ↦
          refl
      | false ↦ refl
    ]

-- a sum over a list of lists
pub sum_by-flat_map : {X Y : Type 0} (f : Y → ℕ) (g : X → List Y) (xs : List X)
    → sum_by f (flat_map g xs) ≡ sum_by (λ x. sum_by f (g x)) xs
sum_by-flat_map f g [] = refl
sum_by-flat_map f g (x ∷ xs) =
    sum_by-append f (g x) (flat_map g xs) ∙ ap (λ n. sum_by f (g x) + n) (sum_by-flat_map f g xs)
    ∙ sym (sum_by-cons (λ x. sum_by f (g x)) x xs)

-- after a write to a place of it
pub sum_by-flat_map-set : {X Y : Type 0} (f : Y → ℕ) (g : X → List Y) (xs : List X) (i : ℕ)
    (y d : X) → i < length xs →
    sum_by f (flat_map g (set xs i y)) + sum_by f (g (get_or xs i d)) ≡ sum_by f (flat_map g xs)
    + sum_by f (g y)
sum_by-flat_map-set f g xs i y d h =
    rw (sum_by-flat_map f g (set xs i y), sum_by-flat_map f g xs)
    (sum_by-set (λ x. sum_by f (g x)) xs i y d h)

pub sum_by-zero : {X : Type 0} (f : X → ℕ) (xs : List X)
    → ((j : ℕ) (d : X) → j < length xs → f (get_or xs j d) ≡ 0) → sum_by f xs ≡ 0
sum_by-zero f [] h = refl
sum_by-zero f (x ∷ xs) h = sum_by-cons f x xs
    ∙ (let here = h 0 x (omega arith) in let rest =
    sum_by-zero f xs (λ j d l. h (suc j) d (omega arith)) in omega arith)

-- a sum of which one place alone counts
pub sum_by-one : {X : Type 0} (f : X → ℕ) (xs : List X) (i : ℕ) (d : X) → i < length xs
    → ((j : ℕ) (e : X) → j < length xs → j ≢ i → f (get_or xs j e) ≡ 0)
    → sum_by f xs ≡ f (get_or xs i d)
sum_by-one f [] i d l h = absurd (omega arith)
sum_by-one f (x ∷ xs) zero d l h =
    let rest : sum_by f xs ≡ 0 = sum_by-zero f xs
    (λ j e k. h (suc j) e (omega arith) (omega arith)) in sum_by-cons f x xs ∙ omega arith
sum_by-one f (x ∷ xs) (suc i) d l h =
    let here : f x ≡ 0 = h 0 x (omega arith) (omega arith) in
    let rest = sum_by-one f xs i d (omega arith)
    (λ j e k n. h (suc j) e (omega arith) (omega arith)) in
    sum_by-cons f x xs ∙ ap (λ n. n + sum_by f xs) here ∙ omega arith

-- the same of look-ups
pub value_in-nowhere : {X : Type 0} (q : Key) (g : X → List Pair) (xs : List X)
    → ((j : ℕ) (d : X) → j < length xs → value_in q (g (get_or xs j d)) ≡ None)
    → value_in q (flat_map g xs) ≡ None
value_in-nowhere q g [] h = refl
value_in-nowhere q g (x ∷ xs) h =
    value_in-append q (g x) (flat_map g xs)
    ∙ ap (λ o. option_or o (value_in q (flat_map g xs))) (h 0 x (omega arith))
    ∙ value_in-nowhere q g xs (λ j d l. h (suc j) d (omega arith))

pub value_in-one : {X : Type 0} (q : Key) (g : X → List Pair) (xs : List X) (i : ℕ) (d : X)
    → i < length xs → ((j : ℕ) (e : X) → j < length xs → j ≢ i
    → value_in q (g (get_or xs j e)) ≡ None) →
    value_in q (flat_map g xs) ≡ value_in q (g (get_or xs i d))
value_in-one q g [] i d l h = absurd (omega arith)
value_in-one q g (x ∷ xs) zero d l h =
    value_in-append q (g x) (flat_map g xs)
    ∙ ap (option_or (value_in q (g x)))
    (value_in-nowhere q g xs (λ j e k. h (suc j) e (omega arith) (omega arith))) ∙ or_none _
value_in-one q g (x ∷ xs) (suc i) d l h =
    value_in-append q (g x) (flat_map g xs)
    ∙ ap (λ o. option_or o (value_in q (flat_map g xs))) (h 0 x (omega arith) (omega arith))
    ∙ value_in-one q g xs i d (omega arith) (λ j e k n. h (suc j) e (omega arith) (omega arith))

-- a length is a sum
pub length-sum_by : {X : Type 0} (xs : List X) → length xs ≡ sum_by (λ _. 1) xs
length-sum_by [] = refl
length-sum_by (x ∷ xs) = let rest = length-sum_by xs in let all =
    sum_by-cons (λ _. 1) x xs in omega arith

-- a filter of a list of lists
pub flat_map-filter : {X Y : Type 0} (p : Y → Bool) (g : X → List Y) (xs : List X)
    → filter p (flat_map g xs) ≡ flat_map (λ x. filter p (g x)) xs
flat_map-filter p g [] = refl
flat_map-filter p g (x ∷ xs) =
    filter-append' p (g x) (flat_map g xs)
    ∙ ap (λ ys. filter p (g x) ++ ys) (flat_map-filter p g xs) where
      filter-append' : {Y : Type 0} (p : Y → Bool) (xs ys : List Y)
          → filter p (xs ++ ys) ≡ filter p xs ++ filter p ys
      filter-append' p [] ys = refl
      filter-append' p (x ∷ xs) ys = ap (λ zs. cond (p x) (x ∷ zs) zs) (filter-append' p xs ys)
          ∙ elim (p x) as (λ b. cond b (x ∷ (filter p xs ++ filter p ys)) (filter p xs ++ filter p ys)
          ≡ cond b (x ∷ filter p xs) (filter p xs) ++ filter p ys) [
            | true ↦
                refl
            | false ↦ refl
          ]

-- of two parts of which one has nothing, either may be looked at first
pub or_turn : {A : Type 0} (a b c : Option A) → (a ≡ None) ⊎ (b ≡ None)
    → option_or a (option_or b c) ≡ option_or b (option_or a c)
or_turn a b c (inl e) = ap (λ o. option_or o (option_or b c)) e
    ∙ sym (ap (λ o. option_or b (option_or o c)) e)
or_turn a b c (inr e) = ap (λ o. option_or a (option_or o c)) e
    ∙ sym (ap (λ o. option_or o (option_or a c)) e)

pub times_some : (q : Key) (xs : List Pair) → times q xs ≡ 0 → value_in q xs ≡ None
times_some q [] e = refl
times_some q (x ∷ xs) e =
    elim (has_key q x) as (λ b. cond b 1 0 + times q xs ≡ 0
    → cond b (Some x.1) (value_in q xs) ≡ None) [
      | true ↦ λ e. absurd (omega arith)
      | false ↦ λ e. times_some q xs (omega arith)
    ] (sym (sum_by-cons (λ pair. cond (has_key q pair) 1 0) x xs) ∙ e)

one_none : (q : Key) (xs ys : List Pair) → times q xs + times q ys ≤ 1
    → (value_in q xs ≡ None) ⊎ (value_in q ys ≡ None)
one_none q xs ys h = ⊎_elim (λ (e : times q xs ≡ 0). inl (times_some q xs e))
    (λ (ne : times q xs ≡ 0 → ⊥). inr (times_some q ys (omega arith))) (cases_eq (times q xs) 0)

-- a list of lists is one of them and the rest, where no key comes twice
pub value_in-split : {X : Type 0} (q : Key) (g : X → List Pair) (xs : List X) (i : ℕ) (y d : X)
    → g y ≡ [] → i < length xs → times q (flat_map g xs) ≤ 1 →
    value_in q (flat_map g xs) ≡ option_or (value_in q (g (get_or xs i d)))
    (value_in q (flat_map g (set xs i y)))
value_in-split q g [] i y d e l h = absurd (omega arith)
value_in-split q g (x ∷ xs) zero y d e l h =
    value_in-append q (g x) (flat_map g xs)
    ∙ ap (λ zs. option_or (value_in q (g x)) (value_in q (zs ++ flat_map g xs))) (sym e)
value_in-split q g (x ∷ xs) (suc i) y d e l h =
    let count : Pair → ℕ = λ pair. cond (has_key q pair) 1 0 in
    let all = sum_by-append count (g x) (flat_map g xs) in
    let change = sum_by-flat_map-set count g xs i y d (omega arith) in
    let none = ap (sum_by count) e in
    value_in-append q (g x) (flat_map g xs)
    ∙ ap (option_or (value_in q (g x))) (value_in-split q g xs i y d e (omega arith) (omega arith))
    ∙ or_turn (value_in q (g x)) (value_in q (g (get_or xs i d)))
    (value_in q (flat_map g (set xs i y))) (one_none q (g x) (g (get_or xs i d)) (omega arith))
    ∙ ap (option_or (value_in q (g (get_or xs i d))))
    (sym (value_in-append q (g x) (flat_map g (set xs i y))))
