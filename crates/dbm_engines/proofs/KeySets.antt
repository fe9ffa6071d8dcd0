-- Sets of keys: the keys of a map, how many they are, and one taken out.
use Rattle.std.proofs.Common.{◌≡◌, T, ℕ, zero, suc, ◌+◌, ◌-◌, Bool, true, false, cond, not, ◌||◌, ◌&&◌, List, [], ◌∷◌, map, length, Option, Some, None, is_some, refl, sym, ◌∙◌, ap, subst, arith}
use Rattle.std.specs.BTreeSet.{insert_key}
use Rattle.std.specs.Cmp.{Equal-is}
use Rattle.std.specs.FinMap as finite
use Rattle.std.specs.FinMap.{entries, keys, contains_key, put, is_sorted}
use Rattle.std.specs.FinMap.Entries.{below_all, by_order}
use Rattle.std.specs.FinSet as set
use Rattle.std.specs.List.{list_any}
use Rattle.std.specs.Ordering.{eq_by_cmp, is_lt, is_eq, match_ordering}
use Rattle.std.specs.declared.cmp.Ordering.{Ordering}
use Rattle.std.specs.declared.cmp.Ordering.TheVariants.{Less, Equal, Greater}
use Rattle.std.proofs.lemmas.Cmp.{nat_list_cmp_total}
use Rattle.dbm_model.specs.Pairs.{Key, Contents, key_cmp}

abbrev pub Keys : Type 0
Keys = set.FinSet key_cmp

-- keys as a map of nothing
abbrev pub Gathered : Type 0
Gathered = finite.FinMap key_cmp (Unit {0})

-- what is there is there or is the new one
turned : {X : Type 0} (r : Ordering) (e : List ℕ × X) (k : List ℕ) (v : X)
    (es more : List (List ℕ × X)) (ks : List Key) → ks ≡ map (λ (x : List ℕ × X). x.0) more
    → match_ordering r (k ∷ e.0 ∷ map (λ (x : List ℕ × X). x.0) es)
    (e.0 ∷ map (λ (x : List ℕ × X). x.0) es) (e.0 ∷ ks)
    ≡ map (λ (x : List ℕ × X). x.0) (by_order r ((k, v) ∷ e ∷ es) ((e.0, v) ∷ es) (e ∷ more))
turned Less e k v es more ks h = refl
turned Equal e k v es more ks h = refl
turned Greater e k v es more ks h = ap (λ rest. e.0 ∷ rest) h

-- the keys, where a value is put at one
pub key_put : {X : Type 0} (k : Key) (v : X) (es : List (Key × X))
    → insert_key key_cmp (map (λ (x : Key × X). x.0) es) k
    ≡ map (λ (x : Key × X). x.0) (put key_cmp k v es)
key_put k v [] = refl
key_put k v (e ∷ es) = turned (key_cmp k e.0) e k v es _ _ (key_put k v es)

pub key_inserted : (some : Gathered) (k : Key)
    → insert_key key_cmp (keys some) k ≡ keys (finite.insert some k tt)
key_inserted some k = key_put k tt (entries some)
    ∙ sym (ap (map (λ (x : Key × Unit {0}). x.0))
    (finite.entries-insert nat_list_cmp_total some k tt))

either : (b : Bool) (x : Option (Unit {0})) → is_some (cond b (Some tt) x) ≡ (b || is_some x)
either true x = refl
either false x = refl

pub contains_inserted : (some : Gathered) (k q : Key)
    → contains_key (finite.insert some k tt) q ≡ (eq_by_cmp key_cmp q k || contains_key some q)
contains_inserted some k q = ap is_some (finite.get-insert nat_list_cmp_total some k tt q)
    ∙ either (eq_by_cmp key_cmp q k) (finite.get some q)

-- the same entries with nothing at each key
abbrev bare : {X : Type 0} → List (Key × X) → List (Key × Unit {0})
bare [] = []
bare (e ∷ es) = (e.0, tt) ∷ bare es

below_bare : {X : Type 0} (x : Key) (es : List (Key × X))
    → below_all key_cmp x (bare es) ≡ below_all key_cmp x es
below_bare x [] = refl
below_bare x (e ∷ es) = ap (λ b. is_lt (key_cmp x e.0) && b) (below_bare x es)

sorted_bare : {X : Type 0} (es : List (Key × X))
    → is_sorted key_cmp (bare es) ≡ is_sorted key_cmp es
sorted_bare [] = refl
sorted_bare (e ∷ es) = λ i. below_bare e.0 es i && sorted_bare es i

keys_bare : {X : Type 0} (es : List (Key × X))
    → map (λ (x : Key × Unit {0}). x.0) (bare es) ≡ map (λ (x : Key × X). x.0) es
keys_bare [] = refl
keys_bare (e ∷ es) = ap (λ rest. e.0 ∷ rest) (keys_bare es)

all_of : Contents → Gathered
all_of m = finite.from_sorted (bare (entries m))

keys_of_all : (m : Contents) → keys (all_of m) ≡ keys m
unfolding all_of
keys_of_all m = ap (map (λ (x : Key × Unit {0}). x.0))
    (finite.entries-from_sorted key_cmp (bare (entries m))
    (subst T (sym (sorted_bare (entries m))) (finite.entries_sorted m))) ∙ keys_bare (entries m)

contains_of_all : (m : Contents) (q : Key) → contains_key (all_of m) q ≡ contains_key m q
contains_of_all m q = finite.contains_key-keys (all_of m) q
    ∙ ap (list_any (eq_by_cmp key_cmp q)) (keys_of_all m) ∙ sym (finite.contains_key-keys m q)

marks : (x : Option (Unit {0})) → x ≡ cond (is_some x) (Some tt) None
marks None = refl
marks (Some u) = refl

same_gathered : (a b : Gathered) → ((q : Key) → contains_key a q ≡ contains_key b q) → a ≡ b
same_gathered a b is = finite.same_map nat_list_cmp_total
    (finite.slice_cmp-IsAntisymmetric finite.nat_cmp-IsAntisymmetric) a b
    (λ q. marks (finite.get a q) ∙ ap (λ b. cond b (Some tt) None) (is q)
    ∙ sym (marks (finite.get b q)))

-- keys of which there are as in the map are the map's
pub all_gathered : (m : Contents) (some : Gathered)
    → ((q : Key) → contains_key m q ≡ contains_key some q) → keys some ≡ keys m
all_gathered m some is = ap (λ (x : Gathered). keys x)
    (same_gathered some (all_of m) (λ q. sym (is q) ∙ sym (contains_of_all m q))) ∙ keys_of_all m

pub nothing : Gathered
nothing = finite.from_sorted []

pub keys_of_nothing : keys nothing ≡ []
unfolding nothing
keys_of_nothing = ap (map (λ (x : Key × Unit {0}). x.0)) (finite.entries-from_sorted key_cmp [] tt)

pub contains_nothing : (q : Key) → contains_key nothing q ≡ false
contains_nothing q = finite.contains_key-keys nothing q
    ∙ ap (list_any (eq_by_cmp key_cmp q)) keys_of_nothing

-- ---- how many keys there are

apart : (r : Ordering) (b c : Bool) → T (is_lt r && b) → (T b → c ≡ false) → (is_eq r || c) ≡ false
apart Less b c h f = f h
apart Equal b c h f = absurd h
apart Greater b c h f = absurd h

absent : {X : Type 0} (x : Key) (es : List (Key × X)) → T (below_all key_cmp x es)
    → list_any (eq_by_cmp key_cmp x) (map (λ (e : Key × X). e.0) es) ≡ false
absent x [] h = refl
absent x (e ∷ es) h = apart (key_cmp x e.0) (below_all key_cmp x es) _ h (absent x es)

of_both : (a b : Bool) → T (a && b) → T a × T b
of_both true b h = (tt, h)
of_both false b h = absurd h

many_from_list : {X : Type 0} (es : List (Key × X)) → T (is_sorted key_cmp es)
    → set.len (set.from_list {R = key_cmp} (map (λ (e : Key × X). e.0) es)) ≡ length es
many_from_list [] h = set.len-empty key_cmp
many_from_list {X} (e ∷ es) h =
    let parts = of_both (below_all key_cmp e.0 es) (is_sorted key_cmp es) h in
    let rest = set.from_list {R = key_cmp} (map (λ (x : Key × X). x.0) es) in
    let more = set.len-insert nat_list_cmp_total rest e.0 in
    let new : set.contains rest e.0 ≡ false =
    set.contains-from_list nat_list_cmp_total (map (λ (x : Key × X). x.0) es) e.0
    ∙ absent e.0 es parts.0 in
    let fewer = many_from_list es parts.1 in
    let one = ap (λ b. cond b (set.len rest) (set.len rest + 1)) new in
    omega (arith, more, one, fewer)

pub all_counted : (m : Contents) → set.len (set.from_list {R = key_cmp} (keys m)) ≡ finite.len m
all_counted m = many_from_list (entries m) (finite.entries_sorted m) ∙ sym (finite.len-entries m)

-- ---- one key taken out

none_there : (all : Keys) (k : Key) → set.contains all k ≡ true → set.len all ≡ 0 → ⊥
none_there all k there none = let e : true ≡ false =
    sym there ∙ ap (λ (x : Keys). set.contains x k) (set.empty_of_len all none)
    ∙ set.contains-empty key_cmp k in cc

one_less : (n r : ℕ) → r ≡ n - 1 → (n ≡ 0 → ⊥) → r + 1 ≡ n
one_less zero r is some = absurd (some refl)
one_less (suc n) r is some = omega (arith, is)

pub fewer_by_one : (all : Keys) (k : Key) → set.contains all k ≡ true
    → set.len (set.remove all k) + 1 ≡ set.len all
fewer_by_one all k there = one_less (set.len all) (set.len (set.remove all k))
    (set.len-remove nat_list_cmp_total all k
    ∙ ap (λ b. cond b (set.len all - 1) (set.len all)) there) (none_there all k there)

pub taken : (all : Keys) (k q : Key) → set.contains all k ≡ true
    → set.contains all q ≡ (eq_by_cmp key_cmp q k || set.contains (set.remove all k) q)
taken all k q there = by_tie (eq_by_cmp key_cmp q k) refl
    ∙ ap (λ b. eq_by_cmp key_cmp q k || b) (sym (set.contains-remove nat_list_cmp_total all k q))
  where
    by_tie : (b : Bool) → eq_by_cmp key_cmp q k ≡ b
        → set.contains all q ≡ (b || (not b && set.contains all q))
    by_tie true t = sym (set.contains_tied nat_list_cmp_total all q k
        ((Equal-is (key_cmp q k)).0 t)) ∙ there
    by_tie false t = refl
