-- How often a key is among some.
use Rattle.std.proofs.Common.{◌≡◌, ◌≢◌, ℕ, ◌+◌, ◌≤◌, Bool, true, false, cond, List, [], ◌∷◌, ◌++◌, suc, refl, sym, ◌∙◌, ap, subst, arith}
use Rattle.std.specs.Prelude.{All, AllPairs}
use Rattle.std.proofs.lemmas.Cmp.{tied_itself}
use Rattle.std.specs.Cmp.{Equal-is}
use Rattle.std.specs.Cmp.Lexicographic.{nat_list_cmp_total}
use Rattle.std.specs.FinMap.{slice_cmp-IsAntisymmetric, nat_cmp-IsAntisymmetric}
use Rattle.std.specs.Ordering.{eq_by_cmp, is_eq}
use Rattle.dbm_model.specs.KeyOrder.{ComesBefore}
use Rattle.dbm_model.specs.Pairs.{Key, key_cmp}
use Rattle.dbm_model.specs.Passes.{times_in}
use Rattle.dbm_model.proofs.KeyOrderLemmas.{never_before_itself}

pub same_key : (key other : Key) → eq_by_cmp key_cmp key other ≡ true → key ≡ other
same_key key other tied = slice_cmp-IsAntisymmetric nat_cmp-IsAntisymmetric key other
    ((Equal-is (key_cmp key other)).0 tied)

pub itself : (key : Key) → eq_by_cmp key_cmp key key ≡ true
itself key = ap is_eq (tied_itself nat_list_cmp_total key)

pub another : (key other : Key) → key ≢ other → eq_by_cmp key_cmp key other ≡ false
another key other differ = by_tie (eq_by_cmp key_cmp key other) refl
  where
    by_tie : (b : Bool) → eq_by_cmp key_cmp key other ≡ b → eq_by_cmp key_cmp key other ≡ false
    by_tie true is = absurd (differ (same_key key other is))
    by_tie false is = is

pub more : (ks later : List Key) (key : Key)
    → times_in (ks ++ later) key ≡ times_in ks key + times_in later key
more [] later key = omega arith
more (one ∷ ks) later key = omega (arith, more ks later key)

abbrev one_if : Bool → ℕ
one_if b = cond b 1 0

-- one that isn't the first
pub not_first : (one : Key) (ks : List Key) (key : Key) → key ≢ one
    → times_in (one ∷ ks) key ≡ times_in ks key
not_first one ks key differ = omega (arith, ap one_if (another key one differ))

pub is_first : (key : Key) (ks : List Key) → 1 ≤ times_in (key ∷ ks) key
is_first key ks = omega (arith, ap one_if (itself key))

none_behind : (key : Key) (ks : List Key) → All (ComesBefore key) ks → times_in ks key ≡ 0
none_behind key [] all = refl
none_behind key (one ∷ ks) all =
    not_first one ks key (λ same. never_before_itself key
    (subst (λ k. ComesBefore key k) (sym same) (all 0 one (omega arith))))
    ∙ none_behind key ks (λ k d within. all (suc k) d (omega arith))

first_once : (key one : Key) (ks : List Key) (b : Bool) → eq_by_cmp key_cmp key one ≡ b
    → All (ComesBefore one) ks → times_in ks key ≤ 1 → times_in (one ∷ ks) key ≤ 1
first_once key one ks true is behind later =
    let none = none_behind one ks behind in
    omega (arith, ap one_if is, ap (times_in ks) (same_key key one is), none)
first_once key one ks false is behind later = omega (arith, ap one_if is, later)

pub at_most_once : (ks : List Key) (key : Key) → AllPairs ComesBefore ks → times_in ks key ≤ 1
at_most_once [] key ascend = omega arith
at_most_once (one ∷ ks) key ascend =
    first_once key one ks (eq_by_cmp key_cmp key one) refl
    (λ k d within. ascend 0 (suc k) d (omega arith) (omega arith))
    (at_most_once ks key
    (λ i j d lt within. ascend (suc i) (suc j) d (omega arith) (omega arith)))
