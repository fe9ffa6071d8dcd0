-- The flat contents of the pages are the pairs of the chains, in another order.
use Rattle.std.proofs.Common.{◌≡◌, ℕ, zero, suc, ◌+◌, ◌-◌, ◌≤◌, ◌==◌, ◌&&◌, Bool, true, false, cond, List, [], ◌∷◌, ◌++◌, map, drop, flat_map, sum_by, count_by, None, Some, is_eq, refl, sym, ap, ◌∙◌, subst, arith, unwrap_or, append-nil, leb, ltb, eqb-true, eq-eqb}
use Rattle.std.specs.List.{AllByRecursion, range_with_len}
use Rattle.std.specs.Ordering.{eq_by_cmp}
use Rattle.std.specs.FinMap.{get-from_entries, same_map}
use Rattle.std.specs.Cmp.{tied_itself}
use Rattle.std.proofs.lemmas.Cmp.{nat_list_cmp_total}
use Rattle.std.proofs.lemmas.List.{map-append}
use Rattle.std.proofs.lemmas.List.Concat.{flat_map-append}
use Rattle.std.proofs.lemmas.List.Sums.{sum_by-append, sum_by-cons}
use Rattle.std.proofs.lemmas.Bool.Decides.{nat_tests}
use Rattle.dbm_model.specs.Pairs.{Key, Pair, key_cmp}
use Rattle.page_model.specs.PairLists.{has_key, times}
use Rattle.page_model.specs.Chain.{Entry, Chain, record_of, numbers, entries_in, pairs_in, pages_of, pages_in}
use Rattle.page_model.specs.Space.{times_of}
use Rattle.page_model.specs.Placement.{Placement, entries_of, pairs_of, in_use, IsGood}
use Rattle.page_model.specs.Pages.{Body, NumberedBody}
use Rattle.page_model.specs.PageBodies.{overflow_bodies, leaf_bodies, content_bodies, entry_bodies, chain_bodies, free_bodies, segment_bodies, heads_of, page_bodies, AreRead, IsSpelled}
use Rattle.page_model.specs.Meaning.{pair_of, pairs_on, flat_pairs}
use Rattle.page_model.specs.BodyLaws.{FlatIsContents}
use Rattle.page_model.proofs.Chains.{AllByRecursion-append, AllByRecursion-left, AllByRecursion-right}
use Rattle.page_model.proofs.GoodBodies.{IsPageNumber, from_times, number, end_small}
use Rattle.page_model.proofs.Joins.{pairs_again}
use Rattle.page_model.proofs.PairLists.{value_in, times_some, sum_by-flat_map}
use Rattle.page_model.proofs.Places.{keys_exact, is_equal, times_none}

-- ---- lists of numbers in which each number comes equally often

unfoldable pub minus : ℕ → List ℕ → List ℕ
minus n [] = []
minus n (m ∷ ms) = cond (m == n) ms (m ∷ minus n ms)

sum_by-minus : (f : ℕ → ℕ) (n : ℕ) (ms : List ℕ) → 1 ≤ times_of n ms
    → sum_by f (minus n ms) + f n ≡ sum_by f ms
unfolding minus
sum_by-minus f n [] h = absurd (omega arith)
sum_by-minus f n (m ∷ ms) h =
    let all = sum_by-cons f m ms in
    let count = sum_by-cons (λ k. cond (k == n) 1 0) m ms in
    elim (m == n) as (λ b. (m == n) ≡ b → times_of n (m ∷ ms) ≡ cond b 1 0 + times_of n ms
    → sum_by f (cond b ms (m ∷ minus n ms)) + f n ≡ sum_by f (m ∷ ms)) [
      | true ↦ λ t c. let e = ap f (eqb-true m n t) in omega arith
      | false ↦ λ t c. let rest = sum_by-minus f n ms (omega arith) in let a =
          sum_by-cons f m (minus n ms) in omega arith
    ] refl count

pub same_sums : (xs ys : List ℕ) → ((n : ℕ) → times_of n xs ≡ times_of n ys) → (f : ℕ → ℕ)
    → sum_by f xs ≡ sum_by f ys
same_sums [] [] h f = refl
same_sums [] (y ∷ ys) h f = absurd
    (let a = h y in let b = sum_by-cons (λ k. cond (k == y) 1 0) y ys in
    let c : cond {A = ℕ} (y == y) 1 0 ≡ 1 =
    ap (λ t. cond {A = ℕ} t 1 0) (eq-eqb y y refl) in omega arith)
same_sums (x ∷ xs) ys h f =
    let own : cond {A = ℕ} (x == x) 1 0 ≡ 1 = ap (λ t. cond {A = ℕ} t 1 0) (eq-eqb x x refl) in
    let there : 1 ≤ times_of x ys =
    (let a = h x in let b = sum_by-cons (λ k. cond (k == x) 1 0) x xs in omega arith) in
    let rest = same_sums xs (minus x ys)
    (λ n. let a = h n in let b = sum_by-cons (λ k. cond (k == n) 1 0) x xs in let c =
    sum_by-minus (λ k. cond (k == n) 1 0) x ys there in omega arith) f in
    let a = sum_by-minus f x ys there in
    let b = sum_by-cons f x xs in
    omega arith

-- ---- lists of pairs with the same sums have one map

unfoldable pub is_pair : Key → List ℕ → Pair → Bool
is_pair key content pair = has_key key pair && eq_by_cmp key_cmp content pair.1

abbrev pub pairs_like : Key → List ℕ → List Pair → ℕ
pairs_like key content xs = count_by (is_pair key content) xs

one_of : (a b : Bool) → cond (a && b) 1 0 ≤ cond a 1 0
one_of true true = omega arith
one_of true false = omega arith
one_of false b = omega arith

like_below : (q : Key) (v : List ℕ) (xs : List Pair) → pairs_like q v xs ≤ times q xs
unfolding is_pair
like_below q v [] = omega arith
like_below q v (x ∷ xs) =
    let a = sum_by-cons (λ pair. cond (is_pair q v pair) 1 0) x xs in let b =
    sum_by-cons (λ pair. cond (has_key q pair) 1 0) x xs in
    let c = one_of (has_key q x) (eq_by_cmp key_cmp v x.1) in let d =
    like_below q v xs in omega arith

pub found_counts : (q : Key) (v : List ℕ) (xs : List Pair) → value_in q xs ≡ Some v
    → 1 ≤ pairs_like q v xs
unfolding is_pair
found_counts q v [] e = cc
found_counts q v (x ∷ xs) e =
    subst (λ n. 1 ≤ n) (sym (sum_by-cons (λ pair. cond (is_pair q v pair) 1 0) x xs))
    (elim (has_key q x) as (λ b. cond b (Some x.1) (value_in q xs) ≡ Some v
    → 1 ≤ cond (b && eq_by_cmp key_cmp v x.1) 1 0 + pairs_like q v xs) [
      | true ↦ λ e.
          let same : eq_by_cmp key_cmp v x.1 ≡ true =
          ap (λ o. eq_by_cmp key_cmp v (unwrap_or o v)) e
          ∙ ap is_eq (tied_itself nat_list_cmp_total v) in
          let one : cond (eq_by_cmp key_cmp v x.1) 1 0 ≡ 1 = ap (λ t. cond {A = ℕ} t 1 0) same in
          omega arith
      | false ↦ λ e. let rest = found_counts q v xs e in omega arith
    ] e)

counts_found : (q : Key) (v : List ℕ) (xs : List Pair) → 1 ≤ pairs_like q v xs → times q xs ≤ 1
    → value_in q xs ≡ Some v
unfolding is_pair
counts_found q v [] l h = absurd (omega arith)
counts_found q v (x ∷ xs) l h =
    let a = sum_by-cons (λ pair. cond (is_pair q v pair) 1 0) x xs in let b =
    sum_by-cons (λ pair. cond (has_key q pair) 1 0) x xs in
    elim (has_key q x) as (λ t. 1 ≤ cond (t && eq_by_cmp key_cmp v x.1) 1 0 + pairs_like q v xs
    → cond t 1 0 + times q xs ≤ 1 → cond t (Some x.1) (value_in q xs) ≡ Some v) [
      | true ↦ λ l h. elim (eq_by_cmp key_cmp v x.1) as
          (λ u. eq_by_cmp key_cmp v x.1 ≡ u → 1 ≤ cond u 1 0 + pairs_like q v xs
          → Some x.1 ≡ Some v) [
            | true ↦ λ u l. ap Some (sym (keys_exact v x.1 (is_equal _ u)))
            | false ↦ λ u l. absurd (let c = like_below q v xs in omega arith)
          ] refl l
      | false ↦ λ l h. counts_found q v xs (omega arith) (omega arith)
    ] (subst (λ n. 1 ≤ n) a l) (subst (λ n. n ≤ 1) b h)

pub value_in-same : (xs ys : List Pair) → ((f : Pair → ℕ) → sum_by f xs ≡ sum_by f ys) → (q : Key)
    → times q ys ≤ 1 → value_in q xs ≡ value_in q ys
value_in-same xs ys same q once =
    elim (value_in q xs) as (λ o. value_in q xs ≡ o → o ≡ value_in q ys) [
      | None ↦ λ e. sym (times_some q ys
          (let a = times_none q xs e in let b =
          same (λ pair. cond (has_key q pair) 1 0) in omega arith))
      | Some v ↦ λ e. sym (counts_found q v ys
          (let a = found_counts q v xs e in let b =
          same (λ pair. cond (is_pair q v pair) 1 0) in omega arith) once)
    ] refl

-- ---- the pages with what they say

numbers-content : (pages content : List ℕ)
    → map (λ numbered. numbered.number) (content_bodies pages content) ≡ pages
numbers-content [] content = refl
numbers-content (n ∷ rest) content = ap (λ ns. n ∷ ns) (numbers-content rest (drop 2032 content))

pub numbers-entries : (es : List Entry)
    → map (λ numbered. numbered.number) (flat_map entry_bodies es) ≡ pages_of es
numbers-entries [] = refl
numbers-entries (e ∷ es) =
    map-append (λ numbered. numbered.number) (entry_bodies e) (flat_map entry_bodies es)
    ∙ (λ i. numbers-content e.pages e.pair.1 i ++ numbers-entries es i)

numbers-leaves : (chain : Chain)
    → map (λ numbered. numbered.number) (leaf_bodies chain) ≡ numbers chain
numbers-leaves [] = refl
numbers-leaves (head ∷ rest) = ap (λ ns. head.number ∷ ns) (over rest) where
  over : (rest : Chain) → map (λ numbered. numbered.number) (overflow_bodies rest) ≡ numbers rest
  over [] = refl
  over (leaf ∷ rest) = ap (λ ns. leaf.number ∷ ns) (over rest)

pub numbers-chain_bodies : (chain : Chain)
    → map (λ numbered. numbered.number) (chain_bodies chain) ≡ pages_in chain
numbers-chain_bodies chain =
    map-append (λ numbered. numbered.number) (leaf_bodies chain)
    (flat_map entry_bodies (entries_in chain))
    ∙ (λ i. numbers-leaves chain i ++ numbers-entries (entries_in chain) i)

-- what the pages say of pairs, where each record says its own
abbrev pub Says : (ℕ → Body) → Entry → Type 0
Says at e = pair_of at (record_of e) ≡ e.pair

pairs_said : (at : ℕ → Body) (es : List Entry) → AllByRecursion (Says at) es
    → map (pair_of at) (map record_of es) ≡ map (λ e. e.pair) es
pairs_said at [] h = refl
pairs_said at (e ∷ es) h = λ i. h.0 i ∷ pairs_said at es h.1 i

pairs-overflow : (at : ℕ → Body) (rest : Chain) → AllByRecursion (Says at) (entries_in rest)
    → flat_map (λ numbered. pairs_on at numbered.body) (overflow_bodies rest) ≡ pairs_in rest
pairs-overflow at [] h = refl
pairs-overflow at (leaf ∷ rest) h =
    λ i. pairs_said at leaf.entries
    (AllByRecursion-left (Says at) leaf.entries (entries_in rest) h) i
    ++ pairs-overflow at rest (AllByRecursion-right (Says at) leaf.entries (entries_in rest) h) i

pairs-leaves : (at : ℕ → Body) (chain : Chain) → AllByRecursion (Says at) (entries_in chain)
    → flat_map (λ numbered. pairs_on at numbered.body) (leaf_bodies chain) ≡ pairs_in chain
pairs-leaves at [] h = refl
pairs-leaves at (head ∷ rest) h =
    λ i. pairs_said at head.entries
    (AllByRecursion-left (Says at) head.entries (entries_in rest) h) i
    ++ pairs-overflow at rest (AllByRecursion-right (Says at) head.entries (entries_in rest) h) i

pairs-content : (at : ℕ → Body) (pages content : List ℕ)
    → flat_map (λ numbered. pairs_on at numbered.body) (content_bodies pages content) ≡ []
pairs-content at [] content = refl
pairs-content at (n ∷ rest) content = pairs-content at rest (drop 2032 content)

pairs-entries : (at : ℕ → Body) (es : List Entry)
    → flat_map (λ numbered. pairs_on at numbered.body) (flat_map entry_bodies es) ≡ []
pairs-entries at [] = refl
pairs-entries at (e ∷ es) =
    flat_map-append (λ numbered. pairs_on at numbered.body) (entry_bodies e)
    (flat_map entry_bodies es)
    ∙ (λ i. pairs-content at e.pages e.pair.1 i ++ pairs-entries at es i)

pairs-chain_bodies : (at : ℕ → Body) (chain : Chain) → AllByRecursion (Says at) (entries_in chain)
    → flat_map (λ numbered. pairs_on at numbered.body) (chain_bodies chain) ≡ pairs_in chain
pairs-chain_bodies at chain h =
    flat_map-append (λ numbered. pairs_on at numbered.body) (leaf_bodies chain)
    (flat_map entry_bodies (entries_in chain))
    ∙ (λ i. pairs-leaves at chain h i ++ pairs-entries at (entries_in chain) i)
    ∙ append-nil (pairs_in chain)

pub numbers-chains : (chains : List Chain)
    → map (λ numbered. numbered.number) (flat_map chain_bodies chains) ≡ flat_map pages_in chains
numbers-chains [] = refl
numbers-chains (chain ∷ rest) =
    map-append (λ numbered. numbered.number) (chain_bodies chain) (flat_map chain_bodies rest)
    ∙ (λ i. numbers-chain_bodies chain i ++ numbers-chains rest i)

pairs-chains : (at : ℕ → Body) (chains : List Chain)
    → AllByRecursion (Says at) (flat_map entries_in chains)
    → flat_map (λ numbered. pairs_on at numbered.body) (flat_map chain_bodies chains)
    ≡ flat_map pairs_in chains
pairs-chains at [] h = refl
pairs-chains at (chain ∷ rest) h =
    flat_map-append (λ numbered. pairs_on at numbered.body) (chain_bodies chain)
    (flat_map chain_bodies rest)
    ∙ (λ i. pairs-chain_bodies at chain
    (AllByRecursion-left (Says at) (entries_in chain) (flat_map entries_in rest) h) i
    ++ pairs-chains at rest
    (AllByRecursion-right (Says at) (entries_in chain) (flat_map entries_in rest) h) i)

pub numbers-free : (free : List ℕ) → map (λ numbered. numbered.number) (free_bodies free) ≡ free
numbers-free [] = refl
numbers-free (n ∷ rest) = ap (λ ns. n ∷ ns) (numbers-free rest)

pairs-free : (at : ℕ → Body) (free : List ℕ)
    → flat_map (λ numbered. pairs_on at numbered.body) (free_bodies free) ≡ []
pairs-free at [] = refl
pairs-free at (n ∷ rest) = pairs-free at rest

pub numbers-segments : (segments heads : List ℕ)
    → map (λ numbered. numbered.number) (segment_bodies segments heads) ≡ segments
numbers-segments [] heads = refl
numbers-segments (n ∷ rest) heads = ap (λ ns. n ∷ ns) (numbers-segments rest (drop 508 heads))

pairs-segments : (at : ℕ → Body) (segments heads : List ℕ)
    → flat_map (λ numbered. pairs_on at numbered.body) (segment_bodies segments heads) ≡ []
pairs-segments at [] heads = refl
pairs-segments at (n ∷ rest) heads = pairs-segments at rest (drop 508 heads)

-- each page has what it says
pub numbers-page_bodies : (p : Placement)
    → map (λ numbered. numbered.number) (page_bodies p) ≡ in_use p ++ p.space.free
numbers-page_bodies p =
    let s = segment_bodies p.segments (heads_of p.chains) in
    ap (λ ns. 1 ∷ ns) (map-append (λ numbered. numbered.number)
    (s ++ flat_map chain_bodies p.chains) (free_bodies p.space.free)
    ∙ ap (λ ns. ns ++ map (λ numbered. numbered.number) (free_bodies p.space.free))
    (map-append (λ numbered. numbered.number) s (flat_map chain_bodies p.chains))
    ∙ (λ i. numbers-segments p.segments (heads_of p.chains) i ++ numbers-chains p.chains i
    ++ numbers-free p.space.free i))

pub pairs-page_bodies : (at : ℕ → Body) (p : Placement) → AllByRecursion (Says at) (entries_of p)
    → flat_map (λ numbered. pairs_on at numbered.body) (page_bodies p) ≡ pairs_of p
pairs-page_bodies at p h =
    let s = segment_bodies p.segments (heads_of p.chains) in
    flat_map-append (λ numbered. pairs_on at numbered.body) (s ++ flat_map chain_bodies p.chains)
    (free_bodies p.space.free)
    ∙ ap (λ xs. xs ++ flat_map (λ numbered. pairs_on at numbered.body) (free_bodies p.space.free))
    (flat_map-append (λ numbered. pairs_on at numbered.body) s (flat_map chain_bodies p.chains))
    ∙ (λ i. pairs-segments at p.segments (heads_of p.chains) i ++ pairs-chains at p.chains h i
    ++ pairs-free at p.space.free i)
    ∙ append-nil (flat_map pairs_in p.chains)

-- the contents of the chains are read
entries_read : (at : ℕ → Body) (chains : List Chain) → AreRead at (flat_map chain_bodies chains)
    → AreRead at (flat_map entry_bodies (flat_map entries_in chains))
entries_read at [] h = tt
entries_read at (chain ∷ rest) h =
    let P : NumberedBody → Type 0 = λ numbered. at numbered.number ≡ numbered.body in
    subst (AreRead at) (sym (flat_map-append entry_bodies (entries_in chain) (flat_map entries_in rest)))
    (AllByRecursion-append P (flat_map entry_bodies (entries_in chain))
    (flat_map entry_bodies (flat_map entries_in rest))
    (AllByRecursion-right P (leaf_bodies chain) (flat_map entry_bodies (entries_in chain))
    (AllByRecursion-left P (chain_bodies chain) (flat_map chain_bodies rest) h))
    (entries_read at rest (AllByRecursion-right P (chain_bodies chain) (flat_map chain_bodies rest) h)))

-- their pages are numbers
content_numbers : (P : ℕ → Type 0) (chains : List Chain) → AllByRecursion P (flat_map pages_in chains)
    → AllByRecursion P (pages_of (flat_map entries_in chains))
content_numbers P [] h = tt
content_numbers P (chain ∷ rest) h =
    subst (AllByRecursion P)
    (sym (flat_map-append (λ (e : Entry). e.pages) (entries_in chain) (flat_map entries_in rest)))
    (AllByRecursion-append P (pages_of (entries_in chain)) (pages_of (flat_map entries_in rest))
    (AllByRecursion-right P (numbers chain) (pages_of (entries_in chain))
    (AllByRecursion-left P (pages_in chain) (flat_map pages_in rest) h))
    (content_numbers P rest (AllByRecursion-right P (pages_in chain) (flat_map pages_in rest) h)))

-- so each record of a good placement says its own pair
pub records_say : (p : Placement) (at : ℕ → Body) → IsGood p → IsSpelled at p
    → AllByRecursion (Says at) (entries_of p)
records_say p at g spelled =
    let P : NumberedBody → Type 0 = λ numbered. at numbered.number ≡ numbered.body in
    let s = segment_bodies p.segments (heads_of p.chains) in
    let pages = from_times IsPageNumber (in_use p)
    (λ n some. number p g.sound (end_small p g) n (omega arith)) in
    pairs_again at p.bounds.version (flat_map entries_in p.chains) g.sound.entered
    (content_numbers IsPageNumber p.chains
    (AllByRecursion-right IsPageNumber (1 ∷ p.segments) (flat_map pages_in p.chains) pages))
    (entries_read at p.chains (AllByRecursion-right P s (flat_map chain_bodies p.chains)
    (AllByRecursion-left P (s ++ flat_map chain_bodies p.chains) (free_bodies p.space.free)
    spelled.1)))

pub times-range_with_len : (n start count : ℕ)
    → times_of n (range_with_len start count) ≡ cond (leb start n && ltb n (start + count)) 1 0
times-range_with_len n start zero = grind (arith, nat_tests)
times-range_with_len n start (suc count) =
    sum_by-cons (λ m. cond (m == n) 1 0) start (range_with_len (start + 1) count)
    ∙ step n start count (times_of n (range_with_len (start + 1) count))
    (times-range_with_len n (start + 1) count) where
      step : (n start count k : ℕ) → k ≡ cond (leb (start + 1) n && ltb n (start + 1 + count)) 1 0
          → cond (start == n) 1 0 + k ≡ cond (leb start n && ltb n (start + suc count)) 1 0
      step n start count k e = grind (arith, nat_tests)

read_sums : (at : ℕ → Body) (f : Pair → ℕ) (xs : List NumberedBody)
    → AllByRecursion (λ numbered. at numbered.number ≡ numbered.body) xs →
    sum_by (λ n. sum_by f (pairs_on at (at n))) (map (λ numbered. numbered.number) xs)
    ≡ sum_by f (flat_map (λ numbered. pairs_on at numbered.body) xs)
read_sums at f [] h = refl
read_sums at f (x ∷ xs) h =
    let a = sum_by-cons (λ n. sum_by f (pairs_on at (at n))) x.number
    (map (λ numbered. numbered.number) xs) in
    let b = sum_by-append f (pairs_on at x.body) (flat_map (λ numbered. pairs_on at numbered.body) xs) in
    let c = ap (λ body. sum_by f (pairs_on at body)) h.0 in
    let d = read_sums at f xs h.1 in
    omega arith

pub flat_is_contents : FlatIsContents
flat_is_contents p at g spelled =
    let h = g.sound in
    let say = records_say p at g spelled in
    let range = range_with_len 1 (p.space.end - 1) in
    let each : (n : ℕ) → times_of n range ≡ times_of n (in_use p ++ p.space.free)
    = λ (n : ℕ). (let a = h.pages.once n in let b = times-range_with_len n 1 (p.space.end - 1) in
    let c = sum_by-append (λ m. cond (m == n) 1 0) (in_use p) p.space.free in let d =
    h.pages.as_many in let e : 1 + (p.space.end - 1) ≡ p.space.end = omega arith in
    b ∙ ap (λ k. cond (leb 1 n && ltb n k) 1 0) e ∙ sym a ∙ sym c) in
    let sums : (f : Pair → ℕ) → sum_by f (flat_pairs at p.space.end) ≡ sum_by f (pairs_of p)
    = λ (f : Pair → ℕ). sum_by-flat_map f (λ n. pairs_on at (at n)) range
    ∙ same_sums range (in_use p ++ p.space.free) each (λ n. sum_by f (pairs_on at (at n)))
    ∙ ap (sum_by (λ n. sum_by f (pairs_on at (at n)))) (sym (numbers-page_bodies p))
    ∙ read_sums at f (page_bodies p) spelled
    ∙ ap (sum_by f) (pairs-page_bodies at p say) in
    same_map nat_list_cmp_total keys_exact _ _ (λ q.
    get-from_entries nat_list_cmp_total (flat_pairs at p.space.end) q
    ∙ value_in-same (flat_pairs at p.space.end) (pairs_of p) sums q (h.no_key_twice q)
    ∙ sym (get-from_entries nat_list_cmp_total (pairs_of p) q))
