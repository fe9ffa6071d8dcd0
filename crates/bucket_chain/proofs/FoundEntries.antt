-- Where a chain that is read as one has the entry of a key that was found.
use Rattle.std.proofs.Common.{◌≡◌, ℕ, ◌<◌, ◌≤◌, cond, List, [], ◌∷◌, ◌++◌, length, map, drop, refl, sym, ap, ◌∙◌, subst, arith, append_assoc}
use Rattle.std.specs.List.{AllByRecursion}
use Rattle.std.proofs.lemmas.List.Concat.{flat_map-append}
use Rattle.std.proofs.lemmas.List.Sums.{sum_by-cons}
use Rattle.dbm_model.specs.Bounds.{Version}
use Rattle.dbm_model.specs.Pairs.{Key, Pair}
use Rattle.page_model.specs.PairLists.{has_key, times}
use Rattle.page_model.specs.Pages.{Body}
use Rattle.page_model.specs.Chain.{Leaf, Chain, Entry, entries_in, leaf_pairs, pairs_in, pages_of, record_of, remove, freed, IsChain}
use Rattle.page_model.proofs.Chains.{AllByRecursion-left, AllByRecursion-right}
use Rattle.page_model.proofs.GoodBodies.{key_is}
use Rattle.slot_page.specs.Contents.{HasKeyAt}
use Rattle.bucket_chain.specs.Chains.{ReadLeaf, ReadChain, leaf_read, chain_read, record_pair, number_or, IsChainAt}
use Rattle.bucket_chain.specs.Walks.{LacksKey, EndsWithout}
use Rattle.bucket_chain.proofs.Walks.{AreNumbered, IsSplit, IsReadAs, read_as, begins_same}
use Rattle.bucket_chain.proofs.KeyWalks.{none_later}
use Rattle.bucket_chain.specs.Hits.{IsNumberedWalk}
use Rattle.bucket_chain.proofs.ChainContents.{parts_of}
use Rattle.bucket_chain.proofs.KeySlots.{slot_times}
use Rattle.bucket_chain.proofs.KeyRemovals.{pairs_at, IsEntryAt, entry_at, times-append, times_parts, at_chain_none, AreFilled, removed_none}

-- a key comes as often among the records as among the entries
pub times_read : (key : Key) (entries : List Entry)
    → times key (map record_pair (map record_of entries)) ≡ times key (pairs_at entries)
times_read key [] = refl
times_read key (e ∷ entries) =
    let same : cond {A = ℕ} (has_key key (record_pair (record_of e))) 1 0
    ≡ cond (has_key key e.pair) 1 0 =
    ap (λ (k : Key). cond {A = ℕ} (has_key key (k, e.pair.1)) 1 0) (key_is e.pair e.pages) in
    omega (
      arith,
      same,
      times_read key entries,
      sum_by-cons (λ (q : Pair). cond (has_key key q) 1 0) (record_pair (record_of e))
          (map record_pair (map record_of entries)),
      sum_by-cons (λ (q : Pair). cond (has_key key q) 1 0) e.pair (pairs_at entries),
    )

-- pages that were passed lack it
none_passed : (key : Key) (chain : Chain) → AllByRecursion (LacksKey key) (chain_read chain)
    → times key (pairs_in chain) ≡ 0
none_passed key [] lack = refl
none_passed key (leaf ∷ rest) lack = omega (
  arith,
  times-append key (leaf_pairs leaf) (pairs_in rest),
  times_read key leaf.entries,
  lack.0,
  none_passed key rest lack.1,
)

filled_of : (front : Chain) (page : Leaf) (later : Chain) → IsChain (front ++ page ∷ later)
    → AreFilled (drop 1 front) × AreFilled later
filled_of [] page later is = (tt, is.2)
filled_of (first ∷ front) page later is =
    let Filled : Leaf → Type 0 = λ (l : Leaf). 0 < length l.entries in (
      AllByRecursion-left Filled front (page ∷ later) is.2,
      (AllByRecursion-right Filled front (page ∷ later) is.2).1,
    )

-- The chain has the key in this page alone, in this slot, where these pages were read before it.
pub record IsFoundHere (chain : Chain) (key : Key) (slot : ℕ) (before : ReadChain)
    (leaf : ReadLeaf) (after : ℕ) : Type 0 where
  pub front : Chain
  pub page : Leaf
  pub later : Chain
  pub parts : chain ≡ front ++ page ∷ later
  pub front_read : chain_read front ≡ before
  pub page_read : leaf_read page ≡ leaf
  pub after_is : after ≡ number_or (chain_read later) 0
  pub none_before : times key (pairs_in front) ≡ 0
  pub none_later : times key (pairs_in later) ≡ 0
  pub filled_before : AreFilled (drop 1 front)
  pub filled_later : AreFilled later
  pub entry : IsEntryAt key page.entries slot
  pub comes : times key (pairs_in chain) ≡ 1

-- it was read of one of the chain's pages
pub record IsPageOfChain (chain : Chain) (leaf : ReadLeaf) : Type 1 where
  pub page : Leaf
  pub page_read : leaf_read page ≡ leaf
  pub entries_all : (P : Entry → Type 0) → AllByRecursion P (entries_in chain)
      → AllByRecursion P page.entries

module _ (version : Version) (at : ℕ → Body) (end head : ℕ) (chain : Chain) (key : Key)
    (is : IsChainAt version at end head chain) where
  as_read : IsReadAs version at end head (chain_read chain)
  as_read = read_as version at end head chain is

  -- the pages that were read are the chain's first
  split_of : {Last : ReadLeaf → ℕ → Type 0}
      (walked : IsNumberedWalk at head (LacksKey key) Last)
      → IsSplit (chain_read chain) (walked.walk.before ++ walked.walk.leaf ∷ [])
      walked.walk.after
  split_of walked = begins_same version at end head
      (walked.walk.before ++ walked.walk.leaf ∷ []) (chain_read chain) walked.walk.after
      walked.walk.are_read walked.numbered as_read

  -- the page where the walk ended is one of the chain
  pub hit_page : {Last : ReadLeaf → ℕ → Type 0}
      (walked : IsNumberedWalk at head (LacksKey key) Last)
      → IsPageOfChain chain walked.walk.leaf
  hit_page walked =
      let walk = walked.walk in
      let split = split_of walked in
      let there = parts_of chain walk.before walk.leaf split.later
      (split.parts ∙ append_assoc walk.before (walk.leaf ∷ []) split.later) in
      record {
        page = there.page;
        page_read = there.page_read;
        entries_all = λ P all.
            AllByRecursion-left P there.page.entries (entries_in there.later)
            (AllByRecursion-right P (entries_in there.front)
            (there.page.entries ++ entries_in there.later)
            (subst (AllByRecursion P) (ap entries_in there.parts
            ∙ flat_map-append (λ (l : Leaf). l.entries) there.front (there.page ∷ there.later))
            all));
      }

  pub found_here : {Last : ReadLeaf → ℕ → Type 0}
      (walked : IsNumberedWalk at head (LacksKey key) Last) (slot : ℕ)
      → HasKeyAt key walked.walk.leaf.records slot → times key (pairs_in chain) ≤ 1
      → IsFoundHere chain key slot walked.walk.before walked.walk.leaf walked.walk.after
  found_here walked slot has once =
      let walk = walked.walk in
      let split = split_of walked in
      let there = parts_of chain walk.before walk.leaf split.later
      (split.parts ∙ append_assoc walk.before (walk.leaf ∷ []) split.later) in
      let filled = filled_of there.front there.page there.later
      (subst IsChain there.parts is.is_chain) in
      let none = none_passed key there.front
      (subst (AllByRecursion (LacksKey key)) (sym there.front_read) walk.passed) in
      let count = ap (λ (c : Chain). times key (pairs_in c)) there.parts
      ∙ times_parts key there.front there.page there.later in
      let has' : HasKeyAt key (map record_of there.page.entries) slot =
      subst (λ (l : ReadLeaf). HasKeyAt key l.records slot) (sym there.page_read) has in
      let some = slot_times key (map record_of there.page.entries) slot has' in
      let same = times_read key there.page.entries in
      record {
        front = there.front;
        page = there.page;
        later = there.later;
        parts = there.parts;
        front_read = there.front_read;
        page_read = there.page_read;
        after_is = split.next ∙ ap (λ (c : ReadChain). number_or c 0) (sym there.later_read);
        none_before = none;
        none_later = omega (arith, once, count, some, same);
        filled_before = filled.0;
        filled_later = filled.1;
        entry = entry_at key there.page.entries slot has' (omega (arith, once, count));
        comes = omega (arith, once, count, some, same);
      }

  -- a walk to its end shows that the chain lacks the key, and nothing is taken out
  pub not_found : IsNumberedWalk at head (LacksKey key) (EndsWithout key)
      → (times key (pairs_in chain) ≡ 0) × (remove key chain ≡ chain) × (freed key chain ≡ [])
  not_found walked =
      let walk = walked.walk in
      let split = split_of walked in
      let numbered = AllByRecursion-right (λ (l : ReadLeaf). 1 ≤ l.number)
      (walk.before ++ walk.leaf ∷ []) split.later
      (subst AreNumbered split.parts as_read.numbered) in
      let over = none_later split.later numbered (sym split.next ∙ walk.last.0) in
      let there = parts_of chain walk.before walk.leaf []
      (split.parts ∙ append_assoc walk.before (walk.leaf ∷ []) split.later
      ∙ ap (λ (c : ReadChain). walk.before ++ walk.leaf ∷ c) over) in
      let none : times key (pairs_in chain) ≡ 0 = omega (
        arith,
        ap (λ (c : Chain). times key (pairs_in c)) there.parts,
        times_parts key there.front there.page there.later,
        none_passed key there.front
            (subst (AllByRecursion (LacksKey key)) (sym there.front_read) walk.passed),
        none_passed key there.later
            (subst (AllByRecursion (LacksKey key)) (sym there.later_read) tt),
        times_read key there.page.entries,
        subst (LacksKey key) (sym there.page_read) walk.last.1,
      ) in
      let same = unchanged chain none is.is_chain in
      (none, same.0, same.1)
    where
      unchanged : (c : Chain) → times key (pairs_in c) ≡ 0 → IsChain c
          → (remove key c ≡ c) × (freed key c ≡ [])
      unchanged [] none chain_is = absurd chain_is
      unchanged (first ∷ rest) none chain_is =
          let both = removed_none key first rest none chain_is.2 in (
            both.0,
            (λ i. pages_of (at_chain_none key (first ∷ rest) none i) ++ both.1 i),
          )
