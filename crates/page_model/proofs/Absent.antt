-- Keys that are not there, and pages with no room.
use Rattle.std.proofs.Common.{◌≡◌, ℕ, zero, suc, ◌<◌, ◌≤◌, ◌||◌, true, false, not, cond, List, [], ◌∷◌, ◌++◌, length, map, filter, get_or, remove, None, Some, refl, sym, ap, ◌∙◌, arith, ne_eqb, set, ap₂}
use Rattle.std.specs.List.{AllByRecursion}
use Rattle.std.proofs.lemmas.List.Sums.{sum_by-cons}
use Rattle.dbm_model.specs.Pairs.{Key}
use Rattle.page_model.specs.PairLists.{has_key, times}
use Rattle.page_model.specs.Chain.{Entry, Leaf, Chain, numbers, entries_in, leaf_pairs, pairs_in, pages_of, fits, has_room, add, is_at, without, take_out, is_bare, IsChain}
use Rattle.page_model.specs.Chain as chain
use Rattle.page_model.specs.Space.{give}
use Rattle.std.specs.FinMap.{get-from_entries}
use Rattle.std.proofs.lemmas.Cmp.{nat_list_cmp_total}
use Rattle.std.proofs.lemmas.List.{set-get_or}
use Rattle.page_model.specs.Address.{hash_of}
use Rattle.page_model.specs.Placement.{pairs_of, key_bucket, chain_at}
use Rattle.page_model.specs.PlacementLaws.{AbsentDeleteKeeps}
use Rattle.page_model.proofs.AddressLemmas.{address_below}
use Rattle.page_model.proofs.Chains.{or_parts_none, pairs_of_entries}
use Rattle.page_model.proofs.Places.{value_at}
use Rattle.page_model.proofs.Splits.{pairs_at}
use Rattle.page_model.proofs.PairLists.{value_in, value_in-append, times_some}

-- the pages before the first that fits are passed
pub add-append : (pair : Entry) (new : ℕ) (before rest : Chain) → has_room pair before ≡ false
    → add pair new (before ++ rest) ≡ before ++ add pair new rest
add-append pair new [] rest h = refl
add-append pair new (leaf ∷ before) rest h =
    elim (fits pair leaf) as (λ b.
    (b || has_room pair before) ≡ false
    → cond b (chain.push pair leaf ∷ (before ++ rest))
    (leaf ∷ add pair new (before ++ rest)) ≡ leaf ∷ (before ++ add pair new rest)) [
      | true ↦ λ e. cc
      | false ↦ λ e. ap (λ c. leaf ∷ c) (add-append pair new before rest e)
    ] h

-- where the key is not, nothing is taken out
pub without_absent : (key : Key) (xs : List Entry) → value_in key (pairs_at xs) ≡ None
    → without key xs ≡ xs
without_absent key [] h = refl
without_absent key (x ∷ xs) h =
    elim (has_key key x.pair) as (λ b.
    cond b (Some x.pair.1) (value_in key (pairs_at xs)) ≡ None
    → cond (not b) (x ∷ without key xs) (without key xs) ≡ x ∷ xs) [
      | true ↦ λ e. cc
      | false ↦ λ e. ap (λ ys. x ∷ ys) (without_absent key xs e)
    ] h

-- nor is any content given
none_found : (key : Key) (xs : List Entry) → value_in key (pairs_at xs) ≡ None
    → filter (is_at key) xs ≡ []
none_found key [] h = refl
none_found key (x ∷ xs) h =
    elim (has_key key x.pair) as (λ b.
    cond b (Some x.pair.1) (value_in key (pairs_at xs)) ≡ None
    → cond b (x ∷ filter (is_at key) xs) (filter (is_at key) xs) ≡ []) [
      | true ↦ λ e. cc
      | false ↦ λ e. none_found key xs e
    ] h

-- to take a key out of a page is to take out its slot
pub without_slot : (key : Key) (xs : List Entry) (i : ℕ) (d : Entry) → i < length xs
    → is_at key (get_or xs i d) ≡ true → times key (pairs_at xs) ≤ 1 → without key xs ≡ remove xs i
without_slot key [] i d l t h = absurd (omega arith)
without_slot key (x ∷ xs) zero d l t h =
    let a = sum_by-cons (λ pair. cond (has_key key pair) 1 0) x.pair (pairs_at xs) in
    let b : cond {A = ℕ} (has_key key x.pair) 1 0 ≡ 1 = ap (λ t. cond t 1 0) t in
    ap (λ b. cond (not b) (x ∷ without key xs) (without key xs)) t
    ∙ without_absent key xs (times_some key (pairs_at xs) (omega arith))
without_slot key (x ∷ xs) (suc i) d l t h =
    let rest = without_slot key xs i d (omega arith) t
    (let a = sum_by-cons (λ pair. cond (has_key key pair) 1 0) x.pair (pairs_at xs) in
    omega arith) in
    elim (has_key key x.pair) as (λ b.
    has_key key x.pair ≡ b → cond (not b) (x ∷ without key xs) (without key xs) ≡ x
    ∷ remove xs i) [
      | true ↦ λ e. absurd
          (let a = sum_by-cons (λ pair. cond (has_key key pair) 1 0) x.pair (pairs_at xs) in
          let b : cond {A = ℕ} (has_key key x.pair) 1 0 ≡ 1 = ap (λ t. cond t 1 0) e in
          let c = at_least key xs i d (omega arith) t in omega arith)
      | false ↦ λ e. ap (λ ys. x ∷ ys) rest
    ] refl where
      at_least : (key : Key) (xs : List Entry) (i : ℕ) (d : Entry) → i < length xs
          → is_at key (get_or xs i d) ≡ true → 1 ≤ times key (pairs_at xs)
      at_least key [] i d l t = absurd (omega arith)
      at_least key (x ∷ xs) zero d l t = let a =
          sum_by-cons (λ pair. cond (has_key key pair) 1 0) x.pair (pairs_at xs) in
          let b : cond {A = ℕ} (has_key key x.pair) 1 0 ≡ 1 = ap (λ t. cond t 1 0) t in omega arith
      at_least key (x ∷ xs) (suc i) d l t = let a =
          sum_by-cons (λ pair. cond (has_key key pair) 1 0) x.pair (pairs_at xs) in let b =
          at_least key xs i d (omega arith) t in omega arith

-- so a chain without the key stays as it is, and gives no page
same_leaf : (key : Key) (leaf : Leaf) → value_in key (leaf_pairs leaf) ≡ None
    → take_out key leaf ≡ leaf
same_leaf key leaf e = ap (λ xs. record leaf { entries = xs }) (without_absent key leaf.entries e)

not_bare : (leaf : Leaf) → 0 < length leaf.entries → is_bare leaf ≡ false
not_bare leaf h = ne_eqb (length leaf.entries) 0 (λ e. omega arith)

parts_of : (key : Key) (leaf : Leaf) (rest : Chain) → value_in key (pairs_in (leaf ∷ rest)) ≡ None
    → (value_in key (leaf_pairs leaf) ≡ None) × (value_in key (pairs_in rest) ≡ None)
parts_of key leaf rest e = or_parts_none _ _
    (sym (value_in-append key (leaf_pairs leaf) (pairs_in rest)) ∙ e)

kept_leaves : (key : Key) (leaves : Chain) → value_in key (pairs_in leaves) ≡ None
    → AllByRecursion (λ leaf. 0 < length leaf.entries) leaves →
    (filter (λ leaf. not (is_bare leaf)) (map (take_out key) leaves) ≡ leaves)
    × (filter is_bare (map (take_out key) leaves) ≡ [])
kept_leaves key [] e h = (refl, refl)
kept_leaves key (leaf ∷ rest) e h =
    let parts = parts_of key leaf rest e in
    let same = same_leaf key leaf parts.0 in
    let later = kept_leaves key rest parts.1 h.1 in
    let full = not_bare leaf h.0 in (
      ap (λ l. cond (not (is_bare l))
          (l ∷ filter (λ leaf. not (is_bare leaf)) (map (take_out key) rest))
          (filter (λ leaf. not (is_bare leaf)) (map (take_out key) rest))) same
          ∙ ap (λ b. cond (not b) (leaf
          ∷ filter (λ leaf. not (is_bare leaf)) (map (take_out key) rest))
          (filter (λ leaf. not (is_bare leaf)) (map (take_out key) rest))) full
          ∙ ap (λ ls. leaf ∷ ls) later.0,
      ap (λ l. cond (is_bare l) (l ∷ filter is_bare (map (take_out key) rest))
          (filter is_bare (map (take_out key) rest))) same
          ∙ ap (λ b. cond b (leaf ∷ filter is_bare (map (take_out key) rest))
          (filter is_bare (map (take_out key) rest))) full
          ∙ later.1,
    )

remove_absent : (key : Key) (c : Chain) → IsChain c → value_in key (pairs_in c) ≡ None
    → (chain.remove key c ≡ c) × (chain.freed key c ≡ [])
remove_absent key [] h e = (refl, refl)
remove_absent key (head ∷ rest) h e =
    let parts = parts_of key head rest e in
    let later = kept_leaves key rest parts.1 h.2 in
    let none = none_found key (entries_in (head ∷ rest))
    (ap (value_in key) (sym (pairs_of_entries (head ∷ rest))) ∙ e) in (
      (λ i. same_leaf key head parts.0 i ∷ later.0 i),
      (λ i. pages_of (none i) ++ numbers (later.1 i)),
    )

pub delete_absent : AbsentDeleteKeeps
delete_absent p key h e =
    let bucket = key_bucket p.shape key in
    let l = (let a = address_below p.shape (hash_of key) h.split_in in let b = h.all_buckets in
    let c : bucket < length p.chains = omega arith in c) in
    let here = remove_absent key (chain_at p bucket) (h.in_place bucket l).0
    (sym (value_at p.shape p.chains key h.split_in h.all_buckets h.in_place)
    ∙ sym (get-from_entries nat_list_cmp_total (pairs_of p) key) ∙ e) in
    ap₂ (λ cs ns. record p { chains = cs; space = give ns p.space })
    (ap (set p.chains bucket) here.0 ∙ set-get_or p.chains bucket []) here.1
