-- How often a key stands among records, and among the pairs of a chain.
use Rattle.std.proofs.Common.{◌≡◌, ℕ, ◌+◌, Bool, cond, List, [], ◌∷◌, ◌++◌, map, refl, ap, ◌∙◌, arith}
use Rattle.std.specs.List.{AllByRecursion}
use Rattle.std.proofs.lemmas.List.{map-append}
use Rattle.std.proofs.lemmas.List.Sums.{sum_by-append, sum_by-cons}
use Rattle.std.proofs.lemmas.List.Concat.{flat_map-append}
use Rattle.dbm_model.specs.Pairs.{Key, Pair}
use Rattle.page_model.specs.PairLists.{has_key, times}
use Rattle.page_model.specs.Pages.{Record}
use Rattle.page_model.specs.Chain.{Entry, Chain, record_of, leaf_pairs, pairs_in}
use Rattle.page_model.proofs.GoodBodies.{key_is}
use Rattle.bucket_chain.specs.Chains.{ReadLeaf, ReadChain, chain_read, record_pair, all_records}
use Rattle.bucket_chain.proofs.KeyWalks.{has_key_is}

pub times-append : (key : Key) (xs ys : List Pair)
    → times key (xs ++ ys) ≡ times key xs + times key ys
times-append key xs ys = sum_by-append (λ (q : Pair). cond (has_key key q) 1 0) xs ys

-- among records
abbrev pub comes : Key → List Record → ℕ
comes key records = times key (map record_pair records)

pub comes-append : (key : Key) (xs ys : List Record)
    → comes key (xs ++ ys) ≡ comes key xs + comes key ys
comes-append key xs ys = ap (times key) (map-append record_pair xs ys)
    ∙ times-append key (map record_pair xs) (map record_pair ys)

pub comes-first : (key : Key) (r : Record) (records : List Record)
    → comes key (r ∷ records) ≡ cond (has_key key (record_pair r)) 1 0 + comes key records
comes-first key r records =
    sum_by-cons (λ (q : Pair). cond (has_key key q) 1 0) (record_pair r) (map record_pair records)

-- a record's own key comes
pub comes-own : (key : Key) (r : Record) (records : List Record) → r.key ≡ key
    → comes key (r ∷ records) ≡ 1 + comes key records
comes-own key r records same = comes-first key r records
    ∙ ap (λ (b : Bool). cond b 1 0 + comes key records) (has_key_is key (record_pair r) same)

-- among the records of pages that were read
pub comes_in_parts : (key : Key) (before later : ReadChain)
    → comes key (all_records (before ++ later))
    ≡ comes key (all_records before) + comes key (all_records later)
comes_in_parts key before later =
    ap (comes key) (flat_map-append (λ (leaf : ReadLeaf). leaf.records) before later)
    ∙ comes-append key (all_records before) (all_records later)

-- entries have the keys of their records
pub comes_of_entries : (key : Key) (entries : List Entry)
    → comes key (map record_of entries) ≡ times key (map (λ e. e.pair) entries)
comes_of_entries key [] = refl
comes_of_entries key (e ∷ entries) =
    let same : has_key key (record_pair (record_of e)) ≡ has_key key e.pair =
    ap (λ (k : Key). has_key key (k, [])) (key_is e.pair e.pages) in
    let one : cond {A = ℕ} (has_key key (record_pair (record_of e))) 1 0
    ≡ cond (has_key key e.pair) 1 0 = ap (λ (b : Bool). cond b 1 0) same in
    omega (
      arith,
      one,
      comes-first key (record_of e) (map record_of entries),
      sum_by-cons (λ (q : Pair). cond (has_key key q) 1 0) e.pair
          (map (λ (e : Entry). e.pair) entries),
      comes_of_entries key entries,
    )

pub comes_read : (key : Key) (chain : Chain)
    → comes key (all_records (chain_read chain)) ≡ times key (pairs_in chain)
comes_read key [] = refl
comes_read key (leaf ∷ rest) = omega (
  arith,
  comes-append key (map record_of leaf.entries) (all_records (chain_read rest)),
  times-append key (leaf_pairs leaf) (pairs_in rest),
  comes_of_entries key leaf.entries,
  comes_read key rest,
)

-- of the first pages of a chain, and of those behind them
pub pairs_in-append : (before later : Chain)
    → pairs_in (before ++ later) ≡ pairs_in before ++ pairs_in later
pairs_in-append before later = flat_map-append leaf_pairs before later

pub times_in_parts : (key : Key) (before later : Chain)
    → times key (pairs_in (before ++ later)) ≡ times key (pairs_in before)
    + times key (pairs_in later)
times_in_parts key before later = ap (times key) (pairs_in-append before later)
    ∙ times-append key (pairs_in before) (pairs_in later)

-- what follows of each
pub each_too : {X : Type 0} (P Q : X → Type 0) (xs : List X) → ((x : X) → P x → Q x)
    → AllByRecursion P xs → AllByRecursion Q xs
each_too P Q [] then all = tt
each_too P Q (x ∷ xs) then all = (then x all.0, each_too P Q xs then all.1)
