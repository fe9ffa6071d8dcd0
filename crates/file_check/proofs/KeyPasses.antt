-- The pages of a chain before one of them, which share no key with it.
use Rattle.std.proofs.Common.{◌≡◌, ◌≢◌, ℕ, ◌≤◌, List, [], ◌∷◌, ◌++◌, sym, ap, ◌∙◌, subst, arith, append_assoc}
use Rattle.std.specs.List.{AllByRecursion}
use Rattle.dbm_model.specs.Bounds.{Version}
use Rattle.page_model.specs.Pages.{Body, Record}
use Rattle.page_model.specs.Chain.{Chain}
use Rattle.page_model.proofs.Chains.{AllByRecursion-append, AllByRecursion-right}
use Rattle.bucket_chain.specs.Links.{SaysLink}
use Rattle.bucket_chain.specs.Chains.{ReadLeaf, ReadChain, chain_read, all_records, number_or}
use Rattle.bucket_chain.proofs.Walks.{leaf_of, AreNumbered, HasPassed, IsUnderWay, IsReadAs, IsHere, read_as, walk_is_here, one_next}
use Rattle.bucket_chain.proofs.KeyWalks.{none_later}
use Rattle.file_check.specs.BucketChains.{AreApart, IsWayTo, HasNewKeys, AreNewInChain}
use Rattle.file_check.proofs.ApartRecords.{apart_of_once}
use Rattle.file_check.proofs.RecordTimes.{comes, comes-append, comes_in_parts, comes_read, each_too}

-- a page that was passed
abbrev pub IsBefore : ℕ → List Record → ReadLeaf → Type 0
IsBefore n records leaf = (leaf.number ≢ n) × AreApart records leaf.records

way_of : (at : ℕ → Body) (head n : ℕ) (records : List Record) (before : ReadChain)
    → HasPassed at head before n → AllByRecursion (IsBefore n records) before
    → IsWayTo at head n before
way_of at head n records [] passed all = passed
way_of at head n records (leaf ∷ rest) passed all = (
  passed.0,
  each_too (IsBefore n records) (λ (leaf : ReadLeaf). leaf.number ≢ n) (leaf ∷ rest)
      (λ x is. is.0) all,
)

-- the walk has come to page n
pub has_new : (at : ℕ → Body) (head n a kind step : ℕ) (records : List Record) → a ≡ n
    → IsUnderWay at head (IsBefore n records) a kind step → HasNewKeys at head n records
has_new at head n a kind step records same walk = record {
  before = walk.before;
  way = way_of at head n records walk.before
      (subst (HasPassed at head walk.before) same walk.has_passed) walk.passed;
  apart = each_too (IsBefore n records) (λ (leaf : ReadLeaf). AreApart records leaf.records)
      walk.before (λ x is. is.1) walk.passed;
}

-- page `leaf` is one of these
pub record IsAmong (leaf : ReadLeaf) (later : ReadChain) : Type 0 where
  pub first : ReadChain
  pub rest : ReadChain
  pub parts : later ≡ first ++ leaf ∷ rest

-- a page that isn't one of the first pages is one of those behind them
among_later : (leaf : ReadLeaf) (front later before behind : ReadChain)
    → front ++ later ≡ before ++ leaf ∷ behind
    → AllByRecursion (λ other. other.number ≢ leaf.number) front → IsAmong leaf later
among_later leaf [] later before behind same others =
    record { first = before; rest = behind; parts = same }
among_later leaf (x ∷ front) later [] behind same others =
    let here : x ≡ leaf = cc in
    absurd (others.0 (ap (λ (l : ReadLeaf). l.number) here))
among_later leaf (x ∷ front) later (y ∷ before) behind same others =
    let tails : front ++ later ≡ before ++ leaf ∷ behind = cc in
    among_later leaf front later before behind tails others.1

not_none : (leaf : ReadLeaf) (later : ReadChain) → IsAmong leaf later → later ≡ [] → ⊥
not_none leaf later among none = by_first among.first (sym none ∙ among.parts)
  where
    by_first : (first : ReadChain) → [] ≡ first ++ leaf ∷ among.rest → ⊥
    by_first [] e = absurd (cc)
    by_first (x ∷ first) e = absurd (cc)

module _ (version : Version) (at : ℕ → Body) (end head n a kind step next : ℕ)
    (records others : List Record) (chain : Chain)
    (new : AreNewInChain version at end head n records chain)
    (walk : IsUnderWay at head (IsBefore n records) a kind step) (other : a ≢ n)
    (link : SaysLink version at a kind next others) where
  as_read : IsReadAs version at end head (chain_read chain)
  as_read = read_as version at end head chain new.is

  here : IsHere version at (chain_read chain) walk.before a kind
  here = walk_is_here version at end head (IsBefore n records) a kind step (chain_read chain)
      as_read walk

  same : (next ≡ number_or here.later 0) × (others ≡ here.leaf.records)
  same = one_next version at a kind next (number_or here.later 0) others here.leaf.records
      link here.link

  chain_is : chain_read chain ≡ (walk.before ++ here.leaf ∷ []) ++ here.later
  chain_is = here.parts ∙ sym (append_assoc walk.before (here.leaf ∷ []) here.later)

  -- page n comes behind this one
  among : IsAmong (leaf_of n records) here.later
  among = among_later (leaf_of n records) (walk.before ++ here.leaf ∷ []) here.later new.before
      new.behind (sym chain_is ∙ new.parts)
      (AllByRecursion-append (λ (leaf : ReadLeaf). leaf.number ≢ n) walk.before (here.leaf ∷ [])
      (each_too (IsBefore n records) (λ (leaf : ReadLeaf). leaf.number ≢ n) walk.before
      (λ x is. is.0) walk.passed) (λ e. other (here.number ∙ e), tt))

  -- so this one isn't the last
  pub not_last : next ≡ 0 → ⊥
  not_last last =
      let numbered = AllByRecursion-right (λ (leaf : ReadLeaf). 1 ≤ leaf.number)
      (walk.before ++ here.leaf ∷ []) here.later (subst AreNumbered chain_is as_read.numbered) in
      not_none (leaf_of n records) here.later among
      (none_later here.later numbered (sym same.0 ∙ last))

  -- and shares no key with it
  pub are_apart : AreApart records others
  are_apart = apart_of_once records others (λ key.
      let leaf = leaf_of n records in
      let once = new.no_key_twice key in
      let all = comes_read key chain in
      let a = ap (λ (c : ReadChain). comes key (all_records c)) here.parts in
      let b = comes_in_parts key walk.before (here.leaf ∷ here.later) in
      let c = comes-append key here.leaf.records (all_records here.later) in
      let d = ap (λ (c : ReadChain). comes key (all_records c)) among.parts in
      let e = comes_in_parts key among.first (leaf ∷ among.rest) in
      let f = comes-append key records (all_records among.rest) in
      let s = ap (comes key) same.1 in
      omega arith)
