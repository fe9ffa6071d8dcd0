-- What is left of a chain where a key is taken out.
use Rattle.std.proofs.Common.{◌≡◌, ℕ, zero, suc, ◌+◌, ◌<◌, ◌≤◌, not, Bool, true, false, cond, List, [], ◌∷◌, ◌++◌, length, map, filter, refl, sym, ap, ◌∙◌, arith, ne_eqb}
use Rattle.std.specs.Prelude.{remove as remove_at}
use Rattle.std.specs.List.{AllByRecursion, HoldsAt}
use Rattle.std.proofs.lemmas.List.{map-append}
use Rattle.std.proofs.lemmas.List.Concat.{flat_map-append}
use Rattle.std.proofs.lemmas.List.Elements.{filter-append}
use Rattle.std.proofs.lemmas.List.Sums.{sum_by-append, sum_by-cons}
use Rattle.dbm_model.specs.Pairs.{Key, Pair}
use Rattle.page_model.specs.PairLists.{has_key, times}
use Rattle.page_model.specs.Pages.{Record}
use Rattle.page_model.specs.Chain.{Leaf, Chain, Entry, numbers, entries_in, leaf_pairs, pairs_in, record_of, is_at, without, take_out, is_bare, remove, emptied}
use Rattle.page_model.proofs.GoodBodies.{key_is}
use Rattle.slot_page.specs.Contents.{HasKeyAt}
use Rattle.bucket_chain.proofs.KeyWalks.{has_key_is}

abbrev pub pairs_at : List Entry → List Pair
pairs_at entries = map (λ (e : Entry). e.pair) entries

times_cons : (key : Key) (e : Entry) (entries : List Entry)
    → times key (pairs_at (e ∷ entries)) ≡ cond (is_at key e) 1 0 + times key (pairs_at entries)
times_cons key e entries =
    sum_by-cons (λ (q : Pair). cond (has_key key q) 1 0) e.pair (pairs_at entries)

not_at : (key : Key) (e : Entry) → cond {A = ℕ} (is_at key e) 1 0 ≡ 0 → is_at key e ≡ false
not_at key e = elim (is_at key e) as (λ b. cond {A = ℕ} b 1 0 ≡ 0 → b ≡ false) [
  | true ↦ λ none. absurd (omega (arith, none))
  | false ↦ λ none. refl
]

-- ---- entries without the key

pub without_none : (key : Key) (entries : List Entry) → times key (pairs_at entries) ≡ 0
    → without key entries ≡ entries
without_none key [] none = refl
without_none key (e ∷ entries) none =
    let count = times_cons key e entries in
    ap (λ (b : Bool). cond (not b) (e ∷ without key entries) (without key entries))
    (not_at key e (omega (arith, none, count)))
    ∙ ap (λ (es : List Entry). e ∷ es) (without_none key entries (omega (arith, none, count)))

pub at_none : (key : Key) (entries : List Entry) → times key (pairs_at entries) ≡ 0
    → filter (is_at key) entries ≡ []
at_none key [] none = refl
at_none key (e ∷ entries) none =
    let count = times_cons key e entries in
    ap (λ (b : Bool). cond b (e ∷ filter (is_at key) entries) (filter (is_at key) entries))
    (not_at key e (omega (arith, none, count)))
    ∙ at_none key entries (omega (arith, none, count))

-- ---- the entry in a slot

-- this one has the key, and it is taken out with its slot
pub record IsEntryAt (key : Key) (entries : List Entry) (slot : ℕ) : Type 0 where
  pub e : Entry
  pub there : HoldsAt (λ r. r ≡ record_of e) (map record_of entries) slot
  pub within : slot < length entries
  pub out : map record_of (without key entries) ≡ remove_at (map record_of entries) slot
  pub only : filter (is_at key) entries ≡ e ∷ []
  pub shorter : length (without key entries) + 1 ≡ length entries
  pub once : times key (pairs_at entries) ≡ 1

pub entry_at : (key : Key) (entries : List Entry) (slot : ℕ)
    → HasKeyAt key (map record_of entries) slot → times key (pairs_at entries) ≤ 1
    → IsEntryAt key entries slot
entry_at key [] slot has once = absurd (omega (arith, has.0))
entry_at key (e ∷ entries) zero has once =
    let same : e.pair.0 ≡ key = sym (key_is e.pair e.pages) ∙ has.1 (record_of e) in
    let here : is_at key e ≡ true = has_key_is key e.pair same in
    let one : cond {A = ℕ} (is_at key e) 1 0 ≡ 1 = ap (λ (b : Bool). cond b 1 0) here in
    let count = times_cons key e entries in
    let none : times key (pairs_at entries) ≡ 0 = omega (arith, once, one, count) in
    let rest = without_none key entries none in
    let out : without key (e ∷ entries) ≡ entries =
    ap (λ (b : Bool). cond (not b) (e ∷ without key entries) (without key entries)) here
    ∙ rest in
    record {
      e = e;
      there = λ d. refl;
      within = omega arith;
      out = ap (map record_of) out;
      only = ap (λ (b : Bool). cond b (e ∷ filter (is_at key) entries)
          (filter (is_at key) entries)) here
          ∙ ap (λ (es : List Entry). e ∷ es) (at_none key entries none);
      shorter = ap (λ (es : List Entry). length es + 1) out ∙ omega arith;
      once = omega (arith, one, none, count);
    }
entry_at key (e ∷ entries) (suc slot) has once =
    let count = times_cons key e entries in
    let rest = entry_at key entries slot (omega (arith, has.0), λ d. has.1 d)
    (omega (arith, once, count)) in
    let other : is_at key e ≡ false =
    not_at key e (omega (arith, once, count, rest.once)) in
    let out : without key (e ∷ entries) ≡ e ∷ without key entries =
    ap (λ (b : Bool). cond (not b) (e ∷ without key entries) (without key entries)) other in
    record {
      e = rest.e;
      there = λ d. rest.there d;
      within = omega (arith, rest.within);
      out = ap (map record_of) out ∙ ap (λ (rs : List Record). record_of e ∷ rs) rest.out;
      only = ap (λ (b : Bool). cond b (e ∷ filter (is_at key) entries)
          (filter (is_at key) entries)) other ∙ rest.only;
      shorter = ap (λ (es : List Entry). length es + 1) out ∙ omega (arith, rest.shorter);
      once = omega (arith, count, rest.once, ap (λ (b : Bool). cond {A = ℕ} b 1 0) other);
    }

-- ---- the pages of a chain

pub times-append : (key : Key) (xs ys : List Pair)
    → times key (xs ++ ys) ≡ times key xs + times key ys
times-append key xs ys = sum_by-append (λ (q : Pair). cond (has_key key q) 1 0) xs ys

-- how often the key comes in a chain, by its parts
pub times_parts : (key : Key) (before : Chain) (leaf : Leaf) (later : Chain)
    → times key (pairs_in (before ++ leaf ∷ later)) ≡ times key (pairs_in before)
    + (times key (leaf_pairs leaf) + times key (pairs_in later))
times_parts key before leaf later =
    ap (times key) (flat_map-append leaf_pairs before (leaf ∷ later))
    ∙ times-append key (pairs_in before) (leaf_pairs leaf ++ pairs_in later)
    ∙ ap (λ (n : ℕ). times key (pairs_in before) + n)
    (times-append key (leaf_pairs leaf) (pairs_in later))

pub at_chain_none : (key : Key) (chain : Chain) → times key (pairs_in chain) ≡ 0
    → filter (is_at key) (entries_in chain) ≡ []
at_chain_none key [] none = refl
at_chain_none key (leaf ∷ rest) none =
    let parts = times-append key (leaf_pairs leaf) (pairs_in rest) in
    filter-append (is_at key) leaf.entries (entries_in rest)
    ∙ (λ i. at_none key leaf.entries (omega (arith, none, parts)) i
    ++ at_chain_none key rest (omega (arith, none, parts)) i)

-- of its entries this one alone has the key
pub at_parts : (key : Key) (before : Chain) (leaf : Leaf) (later : Chain) (e : Entry)
    → times key (pairs_in before) ≡ 0 → times key (pairs_in later) ≡ 0
    → filter (is_at key) leaf.entries ≡ e ∷ []
    → filter (is_at key) (entries_in (before ++ leaf ∷ later)) ≡ e ∷ []
at_parts key before leaf later e none none' only =
    ap (filter (is_at key)) (flat_map-append (λ (l : Leaf). l.entries) before (leaf ∷ later))
    ∙ filter-append (is_at key) (entries_in before) (leaf.entries ++ entries_in later)
    ∙ ap (λ (es : List Entry). es ++ filter (is_at key) (leaf.entries ++ entries_in later))
    (at_chain_none key before none)
    ∙ filter-append (is_at key) leaf.entries (entries_in later)
    ∙ (λ i. only i ++ at_chain_none key later none' i)

abbrev pub AreFilled : Chain → Type 0
AreFilled chain = AllByRecursion (λ leaf. 0 < length leaf.entries) chain

untouched : (key : Key) (leaf : Leaf) → times key (leaf_pairs leaf) ≡ 0
    → take_out key leaf ≡ leaf
untouched key leaf none = ap (λ (es : List Entry). record leaf { entries = es })
    (without_none key leaf.entries none)

-- overflow pages without the key stay as they are
kept : (key : Key) (pages : Chain) → times key (pairs_in pages) ≡ 0 → AreFilled pages
    → (filter (λ leaf. not (is_bare leaf)) (map (take_out key) pages) ≡ pages)
    × (filter is_bare (map (take_out key) pages) ≡ [])
kept key [] none filled = (refl, refl)
kept key (leaf ∷ rest) none filled =
    let parts = times-append key (leaf_pairs leaf) (pairs_in rest) in
    let same = untouched key leaf (omega (arith, none, parts)) in
    let later = kept key rest (omega (arith, none, parts)) filled.1 in
    let full : is_bare leaf ≡ false =
    ne_eqb (length leaf.entries) 0 (λ e. omega (arith, e, filled.0)) in
    let out : Chain = map (take_out key) rest in (
      ap (λ (l : Leaf). cond (not (is_bare l)) (l ∷ filter (λ leaf. not (is_bare leaf)) out)
          (filter (λ leaf. not (is_bare leaf)) out)) same
          ∙ ap (λ (b : Bool). cond (not b) (leaf ∷ filter (λ leaf. not (is_bare leaf)) out)
          (filter (λ leaf. not (is_bare leaf)) out)) full
          ∙ ap (λ (ls : Chain). leaf ∷ ls) later.0,
      ap (λ (l : Leaf). cond (is_bare l) (l ∷ filter is_bare out) (filter is_bare out)) same
          ∙ ap (λ (b : Bool). cond b (leaf ∷ filter is_bare out) (filter is_bare out)) full
          ∙ later.1,
    )

-- of overflow pages this one has the key
around : (key : Key) (before : Chain) (leaf : Leaf) (later : Chain)
    → times key (pairs_in before) ≡ 0 → times key (pairs_in later) ≡ 0 → AreFilled before
    → AreFilled later → (bare : Bool) → is_bare (take_out key leaf) ≡ bare
    → (filter (λ leaf. not (is_bare leaf)) (map (take_out key) (before ++ leaf ∷ later)) ≡ before
    ++ cond bare later (take_out key leaf ∷ later))
    × (filter is_bare (map (take_out key) (before ++ leaf ∷ later))
    ≡ cond bare (take_out key leaf ∷ []) [])
around key before leaf later none none' filled filled' bare is =
    let front = kept key before none filled in
    let back = kept key later none' filled' in
    let xs : Chain = map (take_out key) before in
    let ys : Chain = map (take_out key) later in
    let out : Leaf = take_out key leaf in
    let all : map (take_out key) (before ++ leaf ∷ later) ≡ xs ++ out ∷ ys =
    map-append (take_out key) before (leaf ∷ later) in
    let left : filter (λ leaf. not (is_bare leaf)) (out ∷ ys) ≡ cond bare later (out ∷ later) =
    ap (λ (b : Bool). cond (not b) (out ∷ filter (λ leaf. not (is_bare leaf)) ys)
    (filter (λ leaf. not (is_bare leaf)) ys)) is
    ∙ ap (λ (ls : Chain). cond (not bare) (out ∷ ls) ls) back.0
    ∙ elim bare as (λ (b : Bool).
    cond {A = Chain} (not b) (out ∷ later) later ≡ cond b later (out ∷ later)) [
      | true ↦
          refl
      | false ↦ refl
    ] in
    let gone : filter is_bare (out ∷ ys) ≡ cond bare (out ∷ []) [] =
    ap (λ (b : Bool). cond b (out ∷ filter is_bare ys) (filter is_bare ys)) is
    ∙ ap (λ (ls : Chain). cond bare (out ∷ ls) ls) back.1 in (
      ap (filter (λ leaf. not (is_bare leaf))) all
          ∙ filter-append (λ leaf. not (is_bare leaf)) xs (out ∷ ys)
          ∙ ap (λ (ls : Chain). ls ++ filter (λ leaf. not (is_bare leaf)) (out ∷ ys)) front.0
          ∙ ap (λ (ls : Chain). before ++ ls) left,
      ap (filter is_bare) all ∙ filter-append is_bare xs (out ∷ ys)
          ∙ ap (λ (ls : Chain). ls ++ filter is_bare (out ∷ ys)) front.1 ∙ gone,
    )

-- the head has the key
pub removed_head : (key : Key) (leaf : Leaf) (later : Chain) → times key (pairs_in later) ≡ 0
    → AreFilled later → (remove key (leaf ∷ later) ≡ take_out key leaf ∷ later)
    × (emptied key (leaf ∷ later) ≡ [])
removed_head key leaf later none filled =
    let back = kept key later none filled in
    (ap (λ (ls : Chain). take_out key leaf ∷ ls) back.0, ap numbers back.1)

-- an overflow page has it, which is bare without it or not
pub removed_over : (key : Key) (head : Leaf) (before : Chain) (leaf : Leaf) (later : Chain)
    → times key (pairs_in (head ∷ before)) ≡ 0 → times key (pairs_in later) ≡ 0 → AreFilled before
    → AreFilled later → (bare : Bool) → is_bare (take_out key leaf) ≡ bare
    → (remove key (head ∷ before ++ leaf ∷ later) ≡ head ∷ before
    ++ cond bare later (take_out key leaf ∷ later))
    × (emptied key (head ∷ before ++ leaf ∷ later) ≡ cond bare (leaf.number ∷ []) [])
removed_over key head before leaf later none none' filled filled' bare is =
    let parts = times-append key (leaf_pairs head) (pairs_in before) in
    let same = untouched key head (omega (arith, none, parts)) in
    let both = around key before leaf later (omega (arith, none, parts)) none' filled filled'
    bare is in
    let number : numbers (cond bare (take_out key leaf ∷ []) [])
    ≡ cond bare (leaf.number ∷ []) [] =
    elim bare as (λ (b : Bool). numbers (cond b (take_out key leaf ∷ []) [])
    ≡ cond b (leaf.number ∷ []) []) [ true ↦ refl | false ↦ refl ] in (
      (λ i. same i ∷ both.0 i),
      ap numbers both.1 ∙ number,
    )

-- no page has it
pub removed_none : (key : Key) (head : Leaf) (later : Chain)
    → times key (pairs_in (head ∷ later)) ≡ 0 → AreFilled later
    → (remove key (head ∷ later) ≡ head ∷ later) × (emptied key (head ∷ later) ≡ [])
removed_none key head later none filled =
    let parts = times-append key (leaf_pairs head) (pairs_in later) in
    let same = untouched key head (omega (arith, none, parts)) in
    let both = kept key later (omega (arith, none, parts)) filled in
    ((λ i. same i ∷ both.0 i), ap numbers both.1)
