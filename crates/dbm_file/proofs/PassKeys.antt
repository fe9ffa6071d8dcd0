-- The next key of a pass, by the pairs of the pages.
use Rattle.std.proofs.Common.{◌≡◌, ◌+◌, ◌<◌, Bool, true, false, cond, List, [], ◌∷◌, Some, sym, ap, ◌∙◌, subst, arith, refl}
use Rattle.std.specs.Prelude.{IsSome}
use Rattle.std.specs.List.{AllByRecursion}
use Rattle.std.specs.Cmp.{IsTotalOrder, Equal-is}
use Rattle.std.specs.FinMap.{get, get-from_entries, slice_cmp-IsAntisymmetric, nat_cmp-IsAntisymmetric}
use Rattle.std.proofs.lemmas.Cmp.{nat_list_cmp_total}
use Rattle.std.proofs.lemmas.List.Sums.{sum_by-cons}
use Rattle.dbm_model.specs.KeyOrder.{ComesBefore}
use Rattle.dbm_model.specs.Pairs.{Key, Pair, Contents, key_cmp}
use Rattle.dbm_model.specs.States.{Pass}
use Rattle.dbm_model.specs.Steps.{IsAhead, IsNextKey, IsOver}
use Rattle.page_model.specs.PairLists.{has_key, times}
use Rattle.page_model.specs.Placement.{Placement, pairs_of, contents}
use Rattle.page_model.proofs.PairLists.{value_in}
use Rattle.bucket_chain.specs.Leasts.{IsLeastKey}

abbrev order : IsTotalOrder key_cmp
order = nat_list_cmp_total

same_key : (key : Key) (pair : Pair) → has_key key pair ≡ true → key ≡ pair.0
same_key key pair tied = slice_cmp-IsAntisymmetric nat_cmp-IsAntisymmetric key pair.0
    ((Equal-is (key_cmp key pair.0)).0 tied)

-- a key that comes has a content
has_content : (key : Key) (pairs : List Pair) → 0 < times key pairs → IsSome (value_in key pairs)
has_content key [] comes = absurd (omega (arith, comes))
has_content key (pair ∷ pairs) comes =
    elim (has_key key pair) as (λ b. 0 < cond b 1 0 + times key pairs
    → IsSome (cond b (Some pair.1) (value_in key pairs))) [
      | true ↦ λ more. refl
      | false ↦ λ more. has_content key pairs (omega (arith, more))
    ] (omega (
      arith,
      comes,
      sum_by-cons (λ (other : Pair). cond (has_key key other) 1 0) pair pairs,
    ))

-- what holds of each pair's key holds of each key that has a content
of_each : (P : Key → Type 0) (pairs : List Pair) → AllByRecursion (λ pair. P pair.0) pairs
    → (key : Key) → IsSome (value_in key pairs) → P key
of_each P [] all key there = absurd (let e = there in cc)
of_each P (pair ∷ pairs) all key there =
    by_tie (has_key key pair) refl (of_each P pairs all.1 key) there
  where
    by_tie : (b : Bool) → has_key key pair ≡ b → (IsSome (value_in key pairs) → P key)
        → IsSome (cond b (Some pair.1) (value_in key pairs)) → P key
    by_tie true tied later there = subst P (sym (same_key key pair tied)) all.0
    by_tie false apart later there = later there

module _ (p : Placement) (map : Contents) (is : contents p ≡ map) where
  here : (key : Key) → IsSome (value_in key (pairs_of p)) ≡ IsSome (get map key)
  here key = ap (λ o. IsSome o) (sym (get-from_entries order (pairs_of p) key))
      ∙ ap (λ (m : Contents). IsSome (get m key)) is

  -- the least of the pairs' keys is the next one of the map
  pub next_of_map : (from : Pass) (key : Key) → IsLeastKey (pairs_of p) from key
      → IsNextKey map from key
  next_of_map from key least = record {
    there = subst (λ (T : Type 0). T) (here key) (has_content key (pairs_of p) least.among);
    ahead = least.ahead;
    least = λ other there. of_each
        (λ k. IsAhead from k → ComesBefore k key → ⊥) (pairs_of p) least.least
        other (subst (λ (T : Type 0). T) (sym (here other)) there);
  }

  -- where there is none, the map has none
  pub over_the_map : (from : Pass)
      → AllByRecursion (λ (pair : Pair). IsAhead from pair.0 → ⊥) (pairs_of p) → IsOver map from
  over_the_map from none key there =
      of_each (λ k. IsAhead from k → ⊥) (pairs_of p) none key
      (subst (λ (T : Type 0). T) (sym (here key)) there)
