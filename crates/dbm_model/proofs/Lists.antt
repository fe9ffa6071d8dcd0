-- Members of lists.
use Rattle.std.proofs.Common.{◌≡◌, ◌⊎◌, inl, inr, ⊎_elim, ℕ, zero, suc, ◌<◌, List, [], ◌∷◌, map, length, slice_index_or, Contains, refl, sym, ap, arith}

at_place : {X : Type 0} (x : X) (xs : List X) (y : X) (k : ℕ) → k < length (x ∷ xs)
    → slice_index_or (x ∷ xs) k y ≡ y → (y ≡ x) ⊎ Contains xs y
at_place x xs y zero below is = inl (sym is)
at_place x xs y (suc k) below is = inr (k, omega (arith, below), is)

pub first_or_later : {X : Type 0} (x : X) (xs : List X) (y : X) → Contains (x ∷ xs) y
    → (y ≡ x) ⊎ Contains xs y
first_or_later x xs y is = at_place x xs y is.0 is.1 is.2

pub in_none : {X : Type 0} (x : X) → Contains {X = X} [] x → ⊥
in_none x is = omega (arith, is.1)

pub in_one : {X : Type 0} (x y : X) → Contains (x ∷ []) y → y ≡ x
in_one x y is = ⊎_elim (λ e. e) (λ l. absurd (in_none y l)) (first_or_later x [] y is)

pub in_two : {X : Type 0} (x y z : X) → Contains (x ∷ y ∷ []) z → (z ≡ x) ⊎ (z ≡ y)
in_two x y z is =
    ⊎_elim (λ e. inl e) (λ l. inr (in_one y z l)) (first_or_later x (y ∷ []) z is)

pub is_first : {X : Type 0} (x : X) (xs : List X) (y : X) → y ≡ x → Contains (x ∷ xs) y
is_first x xs y is = (0, omega arith, sym is)

pub is_later : {X : Type 0} (x : X) (xs : List X) (y : X) → Contains xs y → Contains (x ∷ xs) y
is_later x xs y is = (suc is.0, omega (arith, is.1), is.2)

-- a member of what is made of each
pub in_map : {X Y : Type 0} (f : X → Y) (xs : List X) (y : Y) → Contains (map f xs) y
    → (x : X) × Contains xs x × (y ≡ f x)
in_map f [] y is = absurd (in_none y is)
in_map f (x ∷ xs) y is =
    ⊎_elim (λ e. (x, is_first x xs x refl, e))
    (λ l. let rest = in_map f xs y l in (rest.0, is_later x xs rest.0 rest.1, rest.2))
    (first_or_later (f x) (map f xs) y is)

pub map_has : {X Y : Type 0} (f : X → Y) (xs : List X) (x : X) → Contains xs x
    → Contains (map f xs) (f x)
map_has f [] x is = absurd (in_none x is)
map_has f (z ∷ xs) x is =
    ⊎_elim (λ e. is_first (f z) (map f xs) (f x) (ap f e))
    (λ l. is_later (f z) (map f xs) (f x) (map_has f xs x l))
    (first_or_later z xs x is)
