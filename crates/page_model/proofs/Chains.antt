-- What `add` and `remove` do to one chain: to its page numbers, to its pairs, and to what a key
-- finds.
use Rattle.std.proofs.Common.{◌≡◌, ℕ, ◌+◌, ◌<◌, ◌≤◌, ◌==◌, ◌||◌, Bool, true, false, not, cond, List, [], ◌∷◌, ◌++◌, length, map, filter, sum_by, Option, None, Some, refl, sym, ap, ◌∙◌, arith, append-nil, leb-true, eqb-true, ⊎_elim, ◌&&◌}
use Rattle.std.specs.Prelude.{nat_le}
use Rattle.std.proofs.lemmas.List.{map-append}
use Rattle.std.proofs.lemmas.Bool.{ltb-true, ltb-false, or_cases, and_parts}
use Rattle.std.specs.List.{AllByRecursion}
use Rattle.std.specs.Option.{option_or}
use Rattle.std.proofs.lemmas.List.Sums.{sum_by-append, sum_by-cons, sum_by_push}
use Rattle.std.proofs.lemmas.List.Filters.{sum_by-filter_both}
use Rattle.std.proofs.lemmas.List.Elements.{filter-append}
use Rattle.dbm_model.specs.Bounds.{Version, V1, V2}
use Rattle.dbm_model.specs.Pairs.{Key, Pair, is_far, IsAllowed}
use Rattle.page_model.specs.PairLists.{has_key}
use Rattle.page_model.specs.Slots.{size, taken}
use Rattle.page_model.specs.Chain.{Entry, Leaf, Chain, record_with, record_of, pages_long, numbers, entries_in, leaf_pairs, pairs_in, pages_of, pages_in, used, need, fits, push, has_room, add, take_out, is_at, without, is_bare, remove, emptied, freed, IsEntry, IsChain}
use Rattle.page_model.proofs.PairLists.{value_in, value_in-append}

-- the pages stay, and the new one comes last where none has room
pub numbers-add : (entry : Entry) (new : ℕ) (chain : Chain)
    → numbers (add entry new chain) ≡ numbers chain ++ cond (has_room entry chain) [] (new ∷ [])
numbers-add entry new [] = refl
numbers-add entry new (leaf ∷ rest) =
    elim (fits entry leaf) as (λ b.
    numbers (cond b (push entry leaf ∷ rest) (leaf ∷ add entry new rest)) ≡ leaf.number
    ∷ numbers rest ++ cond (b || has_room entry rest) [] (new ∷ [])) [
      | true ↦ sym (append-nil (leaf.number ∷ numbers rest))
      | false ↦ ap (λ ns. leaf.number ∷ ns) (numbers-add entry new rest)
    ]

-- one entry more, whatever is summed
pub sum_by-add_entry : (f : Entry → ℕ) (entry : Entry) (new : ℕ) (chain : Chain)
    → sum_by f (entries_in (add entry new chain)) ≡ sum_by f (entries_in chain) + f entry
sum_by-add_entry f entry new [] = refl
sum_by-add_entry f entry new (leaf ∷ rest) =
    elim (fits entry leaf) as (λ b.
    sum_by f (entries_in (cond b (push entry leaf ∷ rest) (leaf ∷ add entry new rest)))
    ≡ sum_by f (leaf.entries ++ entries_in rest) + f entry) [
      | true ↦ let a = sum_by-append f (leaf.entries ++ entry ∷ []) (entries_in rest) in let b =
          sum_by-append f leaf.entries (entries_in rest) in let c =
          sum_by_push f leaf.entries entry in omega arith
      | false ↦ let a = sum_by-append f leaf.entries (entries_in (add entry new rest)) in let b =
          sum_by-append f leaf.entries (entries_in rest) in let c =
          sum_by-add_entry f entry new rest in omega arith
    ]

pub sum_by-map_of : {X Y : Type 0} (f : Y → ℕ) (g : X → Y) (xs : List X)
    → sum_by f (map g xs) ≡ sum_by (λ x. f (g x)) xs
sum_by-map_of f g [] = refl
sum_by-map_of f g (x ∷ xs) = sum_by-cons f (g x) (map g xs)
    ∙ ap (λ n. f (g x) + n) (sum_by-map_of f g xs) ∙ sym (sum_by-cons (λ x. f (g x)) x xs)

-- a sum over pairs is one over entries
pub sum_by-pairs : (f : Pair → ℕ) (chain : Chain)
    → sum_by f (pairs_in chain) ≡ sum_by (λ entry. f entry.pair) (entries_in chain)
sum_by-pairs f [] = refl
sum_by-pairs f (leaf ∷ rest) =
    let a = sum_by-append f (leaf_pairs leaf) (pairs_in rest) in
    let b = sum_by-append (λ entry. f entry.pair) leaf.entries (entries_in rest) in
    let c = sum_by-map_of f (λ entry. entry.pair) leaf.entries in
    let d = sum_by-pairs f rest in
    omega arith

pub sum_by-add : (f : Pair → ℕ) (entry : Entry) (new : ℕ) (chain : Chain)
    → sum_by f (pairs_in (add entry new chain)) ≡ sum_by f (pairs_in chain) + f entry.pair
sum_by-add f entry new chain =
    let a = sum_by-pairs f (add entry new chain) in
    let b = sum_by-pairs f chain in
    let c = sum_by-add_entry (λ one. f one.pair) entry new chain in
    omega arith

-- so are those of the content pages
pub sum_by-pages : (f : ℕ → ℕ) (entries : List Entry)
    → sum_by f (pages_of entries) ≡ sum_by (λ entry. sum_by f entry.pages) entries
sum_by-pages f [] = refl
sum_by-pages f (entry ∷ entries) = sum_by-append f entry.pages (pages_of entries)
    ∙ ap (λ n. sum_by f entry.pages + n) (sum_by-pages f entries)
    ∙ sym (sum_by-cons (λ one. sum_by f one.pages) entry entries)

-- the pages of a chain and of its contents, with one more
pub sum_by-add_pages : (f : ℕ → ℕ) (entry : Entry) (new : ℕ) (chain : Chain)
    → sum_by f (pages_in (add entry new chain))
    ≡ sum_by f (pages_in chain) + sum_by f entry.pages
    + sum_by f (cond (has_room entry chain) [] (new ∷ []))
sum_by-add_pages f entry new chain =
    let a = sum_by-append f (numbers (add entry new chain))
    (pages_of (entries_in (add entry new chain))) in
    let b = sum_by-append f (numbers chain) (pages_of (entries_in chain)) in
    let c = ap (sum_by f) (numbers-add entry new chain)
    ∙ sum_by-append f (numbers chain) (cond (has_room entry chain) [] (new ∷ [])) in
    let d = sum_by-pages f (entries_in (add entry new chain)) in
    let e = sum_by-pages f (entries_in chain) in
    let g = sum_by-add_entry (λ one. sum_by f one.pages) entry new chain in
    omega arith

pub or_parts_none : {A : Type 0} (a b : Option A) → option_or a b ≡ None → (a ≡ None) × (b ≡ None)
or_parts_none None b e = (refl, e)
or_parts_none (Some x) b e = (e, cc)

past : {A : Type 0} (t : Bool) (x : A) (a b : Option A) → (t ≡ true → a ≡ None)
    → option_or (cond t (Some x) a) b ≡ cond t (Some x) (option_or a b)
past true x a b h = refl
past false x a b h = refl

later : {A : Type 0} (t : Bool) (x : A) (a b : Option A) → (t ≡ true → a ≡ None)
    → option_or a (cond t (Some x) b) ≡ cond t (Some x) (option_or a b)
later true x a b h = ap (λ o. option_or o (Some x)) (h refl)
later false x a b h = refl

-- a new key finds its content, and each other key what it found
pub value_in-add : (q : Key) (entry : Entry) (new : ℕ) (chain : Chain)
    → (is_at q entry ≡ true → value_in q (pairs_in chain) ≡ None) →
    value_in q (pairs_in (add entry new chain))
    ≡ cond (is_at q entry) (Some entry.pair.1) (value_in q (pairs_in chain))
value_in-add q entry new [] h = refl
value_in-add q entry new (leaf ∷ rest) h =
    let parts : value_in q (pairs_in (leaf ∷ rest))
    ≡ option_or (value_in q (leaf_pairs leaf)) (value_in q (pairs_in rest)) =
    value_in-append q (leaf_pairs leaf) (pairs_in rest) in
    let none : is_at q entry ≡ true
    → (value_in q (leaf_pairs leaf) ≡ None) × (value_in q (pairs_in rest) ≡ None) =
    λ (e : is_at q entry ≡ true). or_parts_none _ _ (sym parts ∙ h e) in
    elim (fits entry leaf) as (λ b.
    value_in q (pairs_in (cond b (push entry leaf ∷ rest) (leaf ∷ add entry new rest)))
    ≡ cond (is_at q entry) (Some entry.pair.1) (value_in q (pairs_in (leaf ∷ rest)))) [
      | true ↦ ap (λ xs. value_in q (xs ++ pairs_in rest)) (map-append (λ one. one.pair) leaf.entries (entry ∷ []))
          ∙ value_in-append q (leaf_pairs leaf ++ entry.pair ∷ []) (pairs_in rest)
          ∙ ap (λ o. option_or o (value_in q (pairs_in rest)))
          (value_in-append q (leaf_pairs leaf) (entry.pair ∷ [])
          ∙ later (is_at q entry) entry.pair.1 (value_in q (leaf_pairs leaf)) None (λ e. (none e).0))
          ∙ at_head (is_at q entry) entry.pair.1 (value_in q (leaf_pairs leaf)) (value_in q (pairs_in rest))
          ∙ ap (cond (is_at q entry) (Some entry.pair.1)) (sym parts)
      | false ↦ value_in-append q (leaf_pairs leaf) (pairs_in (add entry new rest))
          ∙ ap (option_or (value_in q (leaf_pairs leaf))) (value_in-add q entry new rest (λ e. (none e).1))
          ∙ later (is_at q entry) entry.pair.1 (value_in q (leaf_pairs leaf)) (value_in q (pairs_in rest))
          (λ e. (none e).0)
          ∙ ap (cond (is_at q entry) (Some entry.pair.1)) (sym parts)
    ] where
      at_head : {A : Type 0} (t : Bool) (x : A) (a b : Option A)
          → option_or (cond t (Some x) (option_or a None)) b ≡ cond t (Some x) (option_or a b)
      at_head true x a b = refl
      at_head false x None b = refl
      at_head false x (Some y) b = refl

-- what holds of all pairs and of the new one still holds of all, by recursion
pub AllByRecursion-append : {X : Type 0} (P : X → Type 0) (xs ys : List X) → AllByRecursion P xs
    → AllByRecursion P ys → AllByRecursion P (xs ++ ys)
AllByRecursion-append P [] ys h k = k
AllByRecursion-append P (x ∷ xs) ys h k = (h.0, AllByRecursion-append P xs ys h.1 k)

pub AllByRecursion-left : {X : Type 0} (P : X → Type 0) (xs ys : List X)
    → AllByRecursion P (xs ++ ys) → AllByRecursion P xs
AllByRecursion-left P [] ys h = tt
AllByRecursion-left P (x ∷ xs) ys h = (h.0, AllByRecursion-left P xs ys h.1)

pub AllByRecursion-right : {X : Type 0} (P : X → Type 0) (xs ys : List X)
    → AllByRecursion P (xs ++ ys) → AllByRecursion P ys
AllByRecursion-right P [] ys h = h
AllByRecursion-right P (x ∷ xs) ys h = AllByRecursion-right P xs ys h.1

pub AllByRecursion-filter : {X : Type 0} (P : X → Type 0) (p : X → Bool) (xs : List X)
    → AllByRecursion P xs → AllByRecursion P (filter p xs)
AllByRecursion-filter P p [] h = tt
AllByRecursion-filter P p (x ∷ xs) h =
    elim (p x) as (λ b. AllByRecursion P (cond b (x ∷ filter p xs) (filter p xs))) [
      | true ↦
          (h.0, AllByRecursion-filter P p xs h.1)
      | false ↦ AllByRecursion-filter P p xs h.1
    ]

pub All-add : (P : Entry → Type 0) (entry : Entry) (new : ℕ) (chain : Chain) → P entry
    → AllByRecursion P (entries_in chain) → AllByRecursion P (entries_in (add entry new chain))
All-add P entry new [] here h = (here, tt)
All-add P entry new (leaf ∷ rest) here h =
    let left = AllByRecursion-left P leaf.entries (entries_in rest) h in
    let right = AllByRecursion-right P leaf.entries (entries_in rest) h in
    elim (fits entry leaf) as (λ b.
    AllByRecursion P (entries_in (cond b (push entry leaf ∷ rest)
    (leaf ∷ add entry new rest)))) [
      | true ↦ AllByRecursion-append P (leaf.entries ++ entry ∷ []) (entries_in rest)
          (AllByRecursion-append P leaf.entries (entry ∷ []) left (here, tt)) right
      | false ↦ AllByRecursion-append P leaf.entries (entries_in (add entry new rest)) left
          (All-add P entry new rest here right)
    ]

-- what holds of all pairs holds of those of all entries, and the other way
all_mapped : (P : Pair → Type 0) (entries : List Entry)
    → AllByRecursion (λ entry. P entry.pair) entries
    → AllByRecursion P (map (λ entry. entry.pair) entries)
all_mapped P [] h = tt
all_mapped P (entry ∷ entries) h = (h.0, all_mapped P entries h.1)

all_unmapped : (P : Pair → Type 0) (entries : List Entry)
    → AllByRecursion P (map (λ entry. entry.pair) entries)
    → AllByRecursion (λ entry. P entry.pair) entries
all_unmapped P [] h = tt
all_unmapped P (entry ∷ entries) h = (h.0, all_unmapped P entries h.1)

pub all_pairs : (P : Pair → Type 0) (chain : Chain)
    → AllByRecursion (λ entry. P entry.pair) (entries_in chain) → AllByRecursion P (pairs_in chain)
all_pairs P [] h = tt
all_pairs P (leaf ∷ rest) h =
    AllByRecursion-append P (leaf_pairs leaf) (pairs_in rest)
    (all_mapped P leaf.entries
    (AllByRecursion-left (λ entry. P entry.pair) leaf.entries (entries_in rest) h))
    (all_pairs P rest (AllByRecursion-right (λ entry. P entry.pair) leaf.entries (entries_in rest) h))

pub all_entries : (P : Pair → Type 0) (chain : Chain) → AllByRecursion P (pairs_in chain)
    → AllByRecursion (λ entry. P entry.pair) (entries_in chain)
all_entries P [] h = tt
all_entries P (leaf ∷ rest) h =
    AllByRecursion-append (λ entry. P entry.pair) leaf.entries (entries_in rest)
    (all_unmapped P leaf.entries (AllByRecursion-left P (leaf_pairs leaf) (pairs_in rest) h))
    (all_entries P rest (AllByRecursion-right P (leaf_pairs leaf) (pairs_in rest) h))

pub all_pairs_add : (P : Pair → Type 0) (entry : Entry) (new : ℕ) (chain : Chain) → P entry.pair
    → AllByRecursion P (pairs_in chain) → AllByRecursion P (pairs_in (add entry new chain))
all_pairs_add P entry new chain here h = all_pairs P (add entry new chain)
    (All-add (λ one. P one.pair) entry new chain here (all_entries P chain h))

-- the record of an entry fits a page
near_small : (entry : Entry) (pages : List ℕ) → length pages ≡ 0
    → length entry.pair.0 + length entry.pair.1 ≤ 2026
    → size (record_with entry.pair pages) ≤ 2026
near_small entry [] none near = near
near_small entry (n ∷ rest) none near = absurd (omega arith)

far_small : (entry : Entry) (pages : List ℕ) → 1 ≤ length pages → length entry.pair.0 ≤ 1023
    → size (record_with entry.pair pages) ≤ 2026
far_small entry [] some short = absurd (omega arith)
far_small entry (n ∷ rest) some short = omega arith

pub near_if : (version : Version) (pair : Pair) → IsAllowed version pair → is_far pair ≡ true
    → (length pair.0 ≤ 1023) × (length pair.1 ≤ 65535)
near_if V1 pair allowed far = absurd (let less = leb-true _ 2026 allowed in
    let more = ltb-true 2026 _ far in omega arith)
near_if V2 pair allowed far =
    let short : Bool = nat_le (length pair.0) 1023 in
    let few : Bool = nat_le (length pair.1) 65535 in
    ⊎_elim
    (λ near. absurd (let less = leb-true (length pair.0 + length pair.1) 2026 near in
    let more = ltb-true 2026 (length pair.0 + length pair.1) far in omega arith))
    (λ is. let both = and_parts short few is in
    (leb-true (length pair.0) 1023 both.0, leb-true (length pair.1) 65535 both.1))
    (or_cases (nat_le (length pair.0 + length pair.1) 2026) (short && few) allowed)

pub entry_small : (version : Version) (entry : Entry) → IsEntry version entry
    → size (record_of entry) ≤ 2026
entry_small version entry is = by_far (is_far entry.pair) refl
  where
    by_far : (b : Bool) → is_far entry.pair ≡ b → size (record_of entry) ≤ 2026
    by_far false near = near_small entry entry.pages
        (is.paged ∙ ap (λ b. cond b (pages_long (length entry.pair.1)) 0) near)
        (ltb-false 2026 (length entry.pair.0 + length entry.pair.1) near)
    by_far true far =
        let bounds = near_if version entry.pair is.allowed far in
        let more = ltb-true 2026 (length entry.pair.0 + length entry.pair.1) far in
        let many : length entry.pages ≡ pages_long (length entry.pair.1) =
        is.paged ∙ ap (λ b. cond b (pages_long (length entry.pair.1)) 0) far in
        far_small entry entry.pages (omega (arith, many)) bounds.0

-- what records take is a sum
pub taken-sum_by : (entries : List Entry) → taken (map record_of entries) ≡ sum_by need entries
taken-sum_by [] = refl
taken-sum_by (entry ∷ entries) =
    omega (arith, taken-sum_by entries, sum_by-cons need entry entries)

-- the overflow pages are still pages that fit and have a entry
used-push : (entry : Entry) (leaf : Leaf) → used (push entry leaf) ≡ used leaf + need entry
used-push entry leaf = taken-sum_by (leaf.entries ++ entry ∷ []) ∙ sum_by_push need leaf.entries entry
    ∙ ap (λ n. n + need entry) (sym (taken-sum_by leaf.entries))

fits_add : (entry : Entry) (new : ℕ) (rest : Chain) → size (record_of entry) ≤ 2026
    → AllByRecursion (λ leaf. used leaf ≤ 2032) rest
    → AllByRecursion (λ leaf. used leaf ≤ 2032) (add entry new rest)
fits_add entry new [] k h = (omega arith, tt)
fits_add entry new (leaf ∷ rest) k h =
    elim (fits entry leaf) as (λ b.
    fits entry leaf ≡ b → AllByRecursion (λ leaf. used leaf ≤ 2032)
    (cond b (push entry leaf ∷ rest) (leaf ∷ add entry new rest))) [
      | true ↦ λ t. (let e = used-push entry leaf in let l = leb-true _ _ t in omega arith, h.1)
      | false ↦ λ t. (h.0, fits_add entry new rest k h.1)
    ] refl

length_push_pos : {X : Type 0} (xs : List X) (x : X) → 0 < length (xs ++ x ∷ [])
length_push_pos [] x = omega arith
length_push_pos (y ∷ xs) x = omega arith

full_add : (entry : Entry) (new : ℕ) (rest : Chain)
    → AllByRecursion (λ leaf. 0 < length leaf.entries) rest
    → AllByRecursion (λ leaf. 0 < length leaf.entries) (add entry new rest)
full_add entry new [] h = (omega arith, tt)
full_add entry new (leaf ∷ rest) h =
    elim (fits entry leaf) as (λ b.
    AllByRecursion (λ leaf. 0 < length leaf.entries)
    (cond b (push entry leaf ∷ rest) (leaf ∷ add entry new rest))) [
      | true ↦ (length_push_pos leaf.entries entry, h.1)
      | false ↦ (h.0, full_add entry new rest h.1)
    ]

pub IsChain-add : (entry : Entry) (new : ℕ) (chain : Chain) → size (record_of entry) ≤ 2026
    → IsChain chain
    → IsChain (add entry new chain)
IsChain-add entry new [] k h = absurd h
IsChain-add entry new (head ∷ overflow) k h =
    elim (fits entry head) as (λ b.
    fits entry head ≡ b → IsChain (cond b (push entry head ∷ overflow)
    (head ∷ add entry new overflow))) [
      | true ↦ λ t. (let e = used-push entry head in let l = leb-true _ _ t in omega arith, h.1, h.2)
      | false ↦ λ t. (h.0, fits_add entry new overflow k h.1, full_add entry new overflow h.2)
    ] refl

-- ---- remove

none_left : {X : Type 0} (xs : List X) → (length xs == 0) ≡ true → xs ≡ []
none_left [] e = refl
none_left (x ∷ xs) e = absurd (omega (arith, eqb-true _ _ e))

entries_in-kept : (key : Key) (leaves : Chain)
    → entries_in (filter (λ leaf. not (is_bare leaf)) (map (take_out key) leaves))
    ≡ without key (entries_in leaves)
entries_in-kept key [] = refl
entries_in-kept key (leaf ∷ rest) =
    elim (is_bare (take_out key leaf)) as
    (λ b. is_bare (take_out key leaf) ≡ b
    → entries_in (cond (not b) (take_out key leaf
    ∷ filter (λ leaf. not (is_bare leaf)) (map (take_out key) rest))
    (filter (λ leaf. not (is_bare leaf)) (map (take_out key) rest)))
    ≡ without key leaf.entries ++ without key (entries_in rest)) [
      | true ↦ λ t. entries_in-kept key rest
          ∙ ap (λ xs. xs ++ without key (entries_in rest)) (sym (none_left _ t))
      | false ↦ λ t. ap (λ xs. without key leaf.entries ++ xs) (entries_in-kept key rest)
    ] refl ∙ sym (filter-append (λ entry. not (is_at key entry)) leaf.entries (entries_in rest))

-- the entries of the other keys stay, in their order
pub entries_in-remove : (key : Key) (chain : Chain)
    → entries_in (remove key chain) ≡ without key (entries_in chain)
entries_in-remove key [] = refl
entries_in-remove key (head ∷ overflow) =
    ap (λ xs. without key head.entries ++ xs) (entries_in-kept key overflow)
    ∙ sym (filter-append (λ entry. not (is_at key entry)) head.entries (entries_in overflow))

without_mapped : (key : Key) (entries : List Entry)
    → map (λ entry. entry.pair) (without key entries)
    ≡ filter (λ pair. not (has_key key pair)) (map (λ entry. entry.pair) entries)
without_mapped key [] = refl
without_mapped key (entry ∷ entries) =
    elim (has_key key entry.pair) as (λ b.
    map (λ one. one.pair) (cond (not b) (entry ∷ without key entries) (without key entries))
    ≡ cond (not b) (entry.pair ∷ filter (λ pair. not (has_key key pair))
    (map (λ one. one.pair) entries))
    (filter (λ pair. not (has_key key pair)) (map (λ one. one.pair) entries))) [
      | true ↦ without_mapped key entries
      | false ↦ ap (λ xs. entry.pair ∷ xs) (without_mapped key entries)
    ]

pub pairs_of_entries : (chain : Chain) → pairs_in chain ≡ map (λ entry. entry.pair) (entries_in chain)
pairs_of_entries [] = refl
pairs_of_entries (leaf ∷ rest) = ap (λ xs. leaf_pairs leaf ++ xs) (pairs_of_entries rest)
    ∙ sym (map-append (λ entry. entry.pair) leaf.entries (entries_in rest))

-- so do their pairs
pub pairs_in-remove : (key : Key) (chain : Chain)
    → pairs_in (remove key chain) ≡ filter (λ pair. not (has_key key pair)) (pairs_in chain)
pairs_in-remove key chain = pairs_of_entries (remove key chain)
    ∙ ap (map (λ entry. entry.pair)) (entries_in-remove key chain)
    ∙ without_mapped key (entries_in chain)
    ∙ ap (filter (λ pair. not (has_key key pair))) (sym (pairs_of_entries chain))

numbers-map : (key : Key) (leaves : Chain) → numbers (map (take_out key) leaves) ≡ numbers leaves
numbers-map key [] = refl
numbers-map key (leaf ∷ rest) = ap (λ ns. leaf.number ∷ ns) (numbers-map key rest)

sum_by-map : {X : Type 0} (f : ℕ → ℕ) (g : X → ℕ) (xs : List X)
    → sum_by f (map g xs) ≡ sum_by (λ x. f (g x)) xs
sum_by-map f g [] = refl
sum_by-map f g (x ∷ xs) = sum_by-cons f (g x) (map g xs) ∙ ap (λ n. f (g x) + n) (sum_by-map f g xs)
    ∙ sym (sum_by-cons (λ x. f (g x)) x xs)

-- each page stays in the chain or is given
pub sum_by-remove : (f : ℕ → ℕ) (key : Key) (chain : Chain)
    → sum_by f (numbers (remove key chain)) + sum_by f (emptied key chain)
    ≡ sum_by f (numbers chain)
sum_by-remove f key [] = refl
sum_by-remove f key (head ∷ overflow) =
    let leaves = map (take_out key) overflow in
    let a = sum_by-cons f head.number (numbers (filter (λ leaf. not (is_bare leaf)) leaves)) in
    let b = sum_by-cons f head.number (numbers overflow) in
    let c = sum_by-map f (λ leaf. leaf.number) (filter (λ leaf. not (is_bare leaf)) leaves) in
    let d = sum_by-map f (λ leaf. leaf.number) (filter is_bare leaves) in
    let e = sum_by-filter_both is_bare (λ leaf. not (is_bare leaf)) (λ _. refl)
    (λ leaf. f leaf.number) leaves in
    let g = sym (sum_by-map f (λ leaf. leaf.number) leaves)
    ∙ ap (sum_by f) (numbers-map key overflow) in
    omega arith

-- and with it those of its contents
pub sum_by-remove_pages : (f : ℕ → ℕ) (key : Key) (chain : Chain)
    → sum_by f (pages_in (remove key chain)) + sum_by f (freed key chain) ≡ sum_by f (pages_in chain)
sum_by-remove_pages f key chain =
    let a = sum_by-append f (numbers (remove key chain)) (pages_of (entries_in (remove key chain))) in
    let b = sum_by-append f (numbers chain) (pages_of (entries_in chain)) in
    let c = sum_by-append f (pages_of (filter (is_at key) (entries_in chain))) (emptied key chain) in
    let d = sum_by-pages f (entries_in (remove key chain))
    ∙ ap (sum_by (λ entry. sum_by f entry.pages)) (entries_in-remove key chain) in
    let e = sum_by-pages f (entries_in chain) in
    let g = sum_by-pages f (filter (is_at key) (entries_in chain)) in
    let h = sum_by-filter_both (is_at key) (λ entry. not (is_at key entry)) (λ _. refl)
    (λ entry. sum_by f entry.pages) (entries_in chain) in
    let i = sum_by-remove f key chain in
    omega arith

used-take_out : (key : Key) (leaf : Leaf) → used (take_out key leaf) ≤ used leaf
used-take_out key leaf = omega (
  arith,
  taken-sum_by leaf.entries,
  taken-sum_by (without key leaf.entries),
  sum_by-filter_both (is_at key) (λ entry. not (is_at key entry)) (λ _. refl)
      need leaf.entries,
)

used_all : (key : Key) (leaves : Chain) → AllByRecursion (λ leaf. used leaf ≤ 2032) leaves
    → AllByRecursion (λ leaf. used leaf ≤ 2032) (map (take_out key) leaves)
used_all key [] h = tt
used_all key (leaf ∷ rest) h = (omega (arith, used-take_out key leaf), used_all key rest h.1)

not_bare : (leaf : Leaf) → is_bare leaf ≡ false → 0 < length leaf.entries
not_bare leaf e = elim leaf.entries as
    (λ xs. (length xs == 0) ≡ false → 0 < length xs) [ [] ↦ λ e. cc | x ∷ xs ↦ λ e. omega arith ] e

full_kept : (leaves : Chain) → AllByRecursion (λ leaf. 0 < length leaf.entries)
    (filter (λ leaf. not (is_bare leaf)) leaves)
full_kept [] = tt
full_kept (leaf ∷ rest) =
    elim (is_bare leaf) as (λ b. is_bare leaf ≡ b
    → AllByRecursion (λ leaf. 0 < length leaf.entries)
    (cond (not b) (leaf ∷ filter (λ leaf. not (is_bare leaf)) rest)
    (filter (λ leaf. not (is_bare leaf)) rest))) [
      | true ↦ λ t. full_kept rest
      | false ↦ λ t. (not_bare leaf t, full_kept rest)
    ] refl

pub IsChain-remove : (key : Key) (chain : Chain) → IsChain chain → IsChain (remove key chain)
IsChain-remove key [] h = h
IsChain-remove key (head ∷ overflow) h = (
  omega (arith, used-take_out key head),
  AllByRecursion-filter (λ leaf. used leaf ≤ 2032) (λ leaf. not (is_bare leaf))
      (map (take_out key) overflow) (used_all key overflow h.1),
  full_kept (map (take_out key) overflow),
)
