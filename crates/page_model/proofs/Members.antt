-- What holds of all pairs of a list holds of all of a list with no more of each.
use Rattle.std.proofs.Common.{◌≡◌, ℕ, ◌+◌, ◌≤◌, ◌&&◌, Bool, true, false, cond, List, [], ◌∷◌, sum_by, is_eq, refl, sym, ap, ◌∙◌, subst, arith}
use Rattle.std.specs.List.{AllByRecursion}
use Rattle.std.specs.Ordering.{eq_by_cmp}
use Rattle.std.specs.FinMap.{get-from_entries}
use Rattle.std.specs.Cmp.{tied_itself}
use Rattle.std.proofs.lemmas.Cmp.{nat_list_cmp_total}
use Rattle.std.proofs.lemmas.List.Sums.{sum_by-cons}
use Rattle.dbm_model.specs.Pairs.{Pair, key_cmp, IsAllowed}
use Rattle.page_model.specs.PairLists.{has_key, HasBytes}
use Rattle.page_model.specs.Placement.{pairs_of}
use Rattle.page_model.specs.PlacementLaws.{MapHoldsBytes, MapIsAllowed}
use Rattle.page_model.proofs.Places.{same_key}
use Rattle.page_model.proofs.Splits.{pairs_allowed}
use Rattle.page_model.proofs.Flat.{is_pair, pairs_like, found_counts}

both_true : (a b : Bool) → (a && b) ≡ true → (a ≡ true) × (b ≡ true)
both_true true b e = (refl, e)
both_true false b e = cc

-- a pair that is like another is it
same_pair : (x y : Pair) → is_pair x.0 x.1 y ≡ true → x ≡ y
unfolding is_pair
same_pair x y e =
    let both = both_true (has_key x.0 y) (eq_by_cmp key_cmp x.1 y.1) e in
    λ i. (same_key x.0 y both.0 i, same_key x.1 (y.1, []) both.1 i)

-- each pair is like itself
own_pair : (x : Pair) → is_pair x.0 x.1 x ≡ true
unfolding is_pair
own_pair x = (λ i. is_eq (tied_itself nat_list_cmp_total x.0 i) && is_eq
    (tied_itself nat_list_cmp_total x.1 i))

counted : (x y : Pair) (ys : List Pair)
    → pairs_like x.0 x.1 (y ∷ ys) ≡ cond (is_pair x.0 x.1 y) 1 0 + pairs_like x.0 x.1 ys
counted x y ys = sum_by-cons (λ pair. cond (is_pair x.0 x.1 pair) 1 0) y ys

holds_of : (P : Pair → Type 0) (xs : List Pair) → AllByRecursion P xs → (x : Pair)
    → 1 ≤ pairs_like x.0 x.1 xs → P x
holds_of P [] h x l = absurd (omega arith)
holds_of P (y ∷ xs) h x l =
    elim (is_pair x.0 x.1 y) as (λ b.
    is_pair x.0 x.1 y ≡ b → 1 ≤ cond b 1 0 + pairs_like x.0 x.1 xs → P x) [
      | true ↦ λ t l. subst P (sym (same_pair x y t)) h.0
      | false ↦ λ t l. holds_of P xs h.1 x (omega arith)
    ] refl (subst (λ n. 1 ≤ n) (counted x y xs) l)

holds_of_all : (P : Pair → Type 0) (ys : List Pair) → ((x : Pair) → 1 ≤ pairs_like x.0 x.1 ys → P x)
    → AllByRecursion P ys
holds_of_all P [] h = tt
holds_of_all P (y ∷ ys) h = (
  h y (let a = counted y y ys in let b = ap (λ t. cond {A = ℕ} t 1 0) (own_pair y) in omega arith),
  holds_of_all P ys (λ x l. h x (let a = counted x y ys in omega arith)),
)

pub AllByRecursion-fewer : (P : Pair → Type 0) (xs ys : List Pair)
    → ((f : Pair → ℕ) → sum_by f ys ≤ sum_by f xs) → AllByRecursion P xs → AllByRecursion P ys
AllByRecursion-fewer P xs ys fewer h =
    holds_of_all P ys (λ x l. holds_of P xs h x
    (let a = fewer (λ pair. cond (is_pair x.0 x.1 pair) 1 0) in omega arith))

pub map_holds_bytes : MapHoldsBytes
map_holds_bytes p key content g e =
    holds_of HasBytes (pairs_of p) g.bytes (key, content)
    (found_counts key content (pairs_of p)
    (sym (get-from_entries nat_list_cmp_total (pairs_of p) key) ∙ e))

pub map_is_allowed : MapIsAllowed
map_is_allowed p key content g e =
    holds_of (IsAllowed p.bounds.version) (pairs_of p) (pairs_allowed p g.sound) (key, content)
    (found_counts key content (pairs_of p)
    (sym (get-from_entries nat_list_cmp_total (pairs_of p) key) ∙ e))
