-- An entry that is put into a chain keeps what is placed so.
use Rattle.std.proofs.Common.{◌≡◌, ◌≢◌, ℕ, ◌+◌, ◌≤◌, ◌==◌, Bool, true, false, cond, List, [], ◌∷◌, ◌++◌, map, sym, ap, ◌∙◌, subst, arith}
use Rattle.std.specs.List.{AllByRecursion}
use Rattle.std.proofs.lemmas.List.{length-append, length-map, map-append}
use Rattle.std.proofs.lemmas.List.Quantifiers.{all_pairs_push}
use Rattle.std.proofs.lemmas.List.Elements.{All-from_recursion}
use Rattle.std.proofs.lemmas.List.Sums.{sum_by-append, sum_by-cons}
use Rattle.dbm_model.specs.Bounds.{Version}
use Rattle.dbm_model.specs.Pairs.{Key, Pair}
use Rattle.page_model.specs.PairLists.{has_key, times}
use Rattle.page_model.specs.Pages.{Body, Record}
use Rattle.page_model.specs.Valid.{IsRecord, IsOf}
use Rattle.page_model.specs.Chain.{Leaf, Chain, Entry, numbers, entries_in, pairs_in, leaf_pairs, pages_of, pages_in, record_of, fits, push, has_room, add, IsEntry, IsChain}
use Rattle.page_model.specs.Space.{Space, next_page, after_take, is_page, times_of}
use Rattle.page_model.specs.PageBodies.{first_of}
use Rattle.page_model.proofs.Chains.{AllByRecursion-append, numbers-add, sum_by-add_pages, IsChain-add, All-add}
use Rattle.page_model.proofs.GoodBodies.{key_is}
use Rattle.free_pages.specs.declared.free_state.FreeState.{FreeState}
use Rattle.free_pages.specs.FreeList.{IsApart}
use Rattle.content_pages.proofs.PageCounts.{times_both}
use Rattle.bucket_chain.specs.Chains.{ReadLeaf, leaf_read, chain_read}
use Rattle.bucket_chain.specs.Links.{AreSound}
use Rattle.bucket_chain.specs.Pairs.{IsSmall}
use Rattle.bucket_chain.proofs.KeyWalks.{has_key_is}
use Rattle.bucket_chain.specs.Changes.{IsPlaced, AreHeld, put_in, BecomesPlaced}
use Rattle.bucket_chain.proofs.ChainContents.{contents_kept}
use Rattle.bucket_chain.proofs.PutLemmas.{one_or_none}
use Rattle.bucket_chain.proofs.FewPages.{few_apart, taken_some, taken_apart, end_some}

first_kept : (e : Entry) (new : ℕ) (chain : Chain) → IsChain chain
    → first_of (numbers (add e new chain)) ≡ first_of (numbers chain)
first_kept e new [] is = absurd is
first_kept e new (leaf ∷ rest) is = ap first_of (numbers-add e new (leaf ∷ rest))

times_leaf : (key : Key) (leaf : Leaf) (rest : Chain)
    → times key (pairs_in (leaf ∷ rest)) ≡ times key (leaf_pairs leaf) + times key (pairs_in rest)
times_leaf key leaf rest =
    sum_by-append (λ (q : Pair). cond {A = ℕ} (has_key key q) 1 0) (leaf_pairs leaf)
    (pairs_in rest)

leaves_kept : (P : Leaf → Type 0) (e : Entry) (new : ℕ) (chain : Chain)
    → ((leaf : Leaf) → P leaf → times e.pair.0 (leaf_pairs leaf) ≡ 0 → P (push e leaf))
    → P (record { number = new; entries = e ∷ [] })
    → times e.pair.0 (pairs_in chain) ≡ 0 → AllByRecursion P chain
    → AllByRecursion P (add e new chain)
leaves_kept P e new [] more fresh none all = (fresh, tt)
leaves_kept P e new (leaf ∷ rest) more fresh none all =
    let split = times_leaf e.pair.0 leaf rest in
    elim (fits e leaf) as (λ b.
    AllByRecursion P (cond b (push e leaf ∷ rest) (leaf ∷ add e new rest))) [
      | true ↦ (more leaf all.0 (omega (arith, none, split)), all.1)
      | false ↦ (all.0, leaves_kept P e new rest more fresh (omega (arith, none, split)) all.1)
    ]

all_reads : (P : ReadLeaf → Type 0) (chain : Chain) → AllByRecursion P (chain_read chain)
    → AllByRecursion (λ leaf. P (leaf_read leaf)) chain
all_reads P [] all = tt
all_reads P (leaf ∷ rest) all = (all.0, all_reads P rest all.1)

reads_all : (P : ReadLeaf → Type 0) (chain : Chain)
    → AllByRecursion (λ leaf. P (leaf_read leaf)) chain → AllByRecursion P (chain_read chain)
reads_all P [] all = tt
reads_all P (leaf ∷ rest) all = (all.0, reads_all P rest all.1)

-- entries without the key
lack_key : (key : Key) (entries : List Entry) → times key (map (λ (e : Entry). e.pair) entries) ≡ 0
    → AllByRecursion (λ r. r.key ≢ key) (map record_of entries)
lack_key key [] none = tt
lack_key key (e ∷ entries) none =
    let counted = sum_by-cons (λ (q : Pair). cond {A = ℕ} (has_key key q) 1 0) e.pair
    (map (λ (x : Entry). x.pair) entries) in (
      λ same. let one : cond {A = ℕ} (has_key key e.pair) 1 0 ≡ 1 =
          ap (λ (b : Bool). cond b 1 0) (has_key_is key e.pair
          (sym (key_is e.pair e.pages) ∙ same)) in
          omega (arith, none, counted, one),
      lack_key key entries (omega (arith, none, counted)),
    )

module _ (version : Version) (e : Entry) (small : IsSmall version (record_of e)) where
  sound_more : (leaf : Leaf) → AreSound version (map record_of leaf.entries)
      → times e.pair.0 (leaf_pairs leaf) ≡ 0
      → AreSound version (map record_of (leaf.entries ++ e ∷ []))
  sound_more leaf sound none =
      let records = map record_of leaf.entries in
      let lacks : AllByRecursion (λ r. r.key ≢ (record_of e).key) records =
      subst (λ (k : Key). AllByRecursion (λ r. r.key ≢ k) records)
      (sym (key_is e.pair e.pages)) (lack_key e.pair.0 leaf.entries none) in
      subst (AreSound version) (sym (map-append record_of leaf.entries (e ∷ []))) record {
        distinct = all_pairs_push (λ r q. r.key ≢ q.key) records (record_of e) sound.distinct
            (All-from_recursion (λ (r : Record). r.key ≢ (record_of e).key) records lacks);
        told = AllByRecursion-append IsRecord records (record_of e ∷ []) sound.told
            (small.told, tt);
        of_version = AllByRecursion-append (IsOf version) records (record_of e ∷ [])
            sound.of_version (small.of_version, tt);
      }

  sound_alone : AreSound version (record_of e ∷ [])
  sound_alone = record {
    distinct = λ i j d lt le. absurd (omega (arith, lt, le));
    told = (small.told, tt);
    of_version = (small.of_version, tt);
  }

-- the pages, by whether there is room
times_added : (n : ℕ) (e : Entry) (new : ℕ) (chain : Chain)
    → times_of n (pages_in (add e new chain)) ≡ times_of n (pages_in chain) + times_of n e.pages
    + times_of n (cond (has_room e chain) [] (new ∷ []))
times_added n e new chain = sum_by-add_pages (λ (m : ℕ). cond (m == n) 1 0) e new chain

-- entries that stand apart, of which the first is put
pub apart_then : (chain : Chain) (s : Space) (e : Entry) (rest : List Entry)
    → IsApart (pages_of (e ∷ rest) ++ pages_in chain) s → 1 ≤ s.end
    → IsApart (pages_of rest ++ pages_in (put_in (chain, s) e).0) (put_in (chain, s) e).1
apart_then chain s e rest apart some n =
    let new = next_page s in
    let all = pages_of (e ∷ rest) ++ pages_in chain in
    let before = times_both n (pages_of (e ∷ rest)) (pages_in chain) in
    let own = times_both n e.pages (pages_of rest) in
    let after = times_both n (pages_of rest) (pages_in (add e new chain)) in
    elim (has_room e chain) as (λ b. times_of n (pages_in (add e new chain))
    ≡ times_of n (pages_in chain) + times_of n e.pages + times_of n (cond b [] (new ∷ []))
    → times_of n (pages_of rest ++ pages_in (add e new chain))
    + times_of n (cond b s (after_take s)).free
    ≤ cond (is_page n (cond b s (after_take s)).end) 1 0) [
      | true ↦ λ c. omega (arith, c, apart n, before, own, after)
      | false ↦ λ c. omega (
        arith,
        c,
        taken_apart all s apart some n,
        times_both n all (new ∷ []),
        before,
        own,
        after,
      )
    ] (times_added n e new chain)

put_end : (chain : Chain) (s : Space) (e : Entry) → 1 ≤ s.end → 1 ≤ (put_in (chain, s) e).1.end
put_end chain s e some = elim (has_room e chain) as (λ b. 1 ≤ (cond b s (after_take s)).end) [
  | true ↦ some
  | false ↦ end_some s some
]

-- pages that were touched stay among those of the chain and the free ones
put_more : (chain : Chain) (s : Space) (e : Entry) (n : ℕ)
    → times_of n (pages_in (put_in (chain, s) e).0) + times_of n (put_in (chain, s) e).1.free ≡ 0
    → times_of n (pages_in chain) + times_of n s.free ≡ 0
put_more chain s e n = elim (has_room e chain) as (λ b. times_of n (pages_in (add e new chain))
    ≡ times_of n (pages_in chain) + times_of n e.pages + times_of n (cond b [] (new ∷ []))
    → times_of n (pages_in (add e new chain)) + times_of n (cond b s (after_take s)).free ≡ 0
    → times_of n (pages_in chain) + times_of n s.free ≡ 0) [
      | true ↦ λ c none. omega (arith, c, none)
      | false ↦ λ c none. by_free s.free s.end (omega (arith, c, none)) (omega (arith, c, none))
    ] (times_added n e new chain)
  where
    new : ℕ
    new = next_page s

    by_free : (free : List ℕ) (end : ℕ)
        → times_of n (pages_in chain)
        + times_of n (next_page (record { free = free; end = end }) ∷ []) ≡ 0
        → times_of n (after_take (record { free = free; end = end })).free ≡ 0
        → times_of n (pages_in chain) + times_of n free ≡ 0
    by_free [] end none left = omega (arith, none)
    by_free (m ∷ rest) end none left =
        let one : ℕ → ℕ = λ k. cond (k == n) 1 0 in
        omega (arith, none, left, sum_by-cons one m [], sum_by-cons one m rest)

module _ (version : Version) (at at' : ℕ → Body) (state state' : FreeState) (head : ℕ)
    (chain : Chain) (s : Space) (e : Entry) (rest : List Entry)
    (placed : IsPlaced version at state head chain s) (small : IsSmall version (record_of e))
    (held : AreHeld version at (pages_in chain) s (e ∷ rest))
    (none : times e.pair.0 (pairs_in chain) ≡ 0)
    (becomes : BecomesPlaced at at' state' (put_in (chain, s) e)) where
  some : 1 ≤ s.end
  some = placed.free_is.some

  -- the others stand apart still
  apart_still : IsApart (pages_of rest ++ pages_in (put_in (chain, s) e).0) (put_in (chain, s) e).1
  apart_still = apart_then chain s e rest held.apart some

  pub held_still : AreHeld version at' (pages_in (put_in (chain, s) e).0) (put_in
      (chain, s) e).1 rest
  held_still = record {
    entered = held.entered.1;
    are_read = contents_kept at at' rest
        (λ n stands. becomes.rewritten.others n (omega (
          arith,
          stands,
          one_or_none (is_page n (put_in (chain, s) e).1.end) _ (apart_still n),
          times_both n (pages_of rest) (pages_in (put_in (chain, s) e).0),
        ))) held.are_read.1;
    apart = apart_still;
  }

  apart_own : IsApart (pages_in (put_in (chain, s) e).0) (put_in (chain, s) e).1
  apart_own n = omega (
    arith,
    apart_still n,
    times_both n (pages_of rest) (pages_in (put_in (chain, s) e).0),
  )

  pub put_keeps : IsPlaced version at' state' head (put_in (chain, s) e).0 (put_in (chain, s) e).1
  put_keeps =
      let new = next_page s in
      let fits' = few_apart (pages_in (put_in (chain, s) e).0) (put_in (chain, s) e).1 apart_own
      (put_end chain s e some) in
      record {
        chain_is = record {
          are_read = becomes.rewritten.chain_read;
          is_chain = IsChain-add e new chain small.few placed.chain_is.is_chain;
          from = placed.chain_is.from ∙ sym (first_kept e new chain placed.chain_is.is_chain);
          few = omega (
            arith,
            fits',
            length-append (numbers (add e new chain)) (pages_of (entries_in (add e new chain))),
            length-map (add e new chain) (λ (l : Leaf). l.number),
          );
          numbered = leaves_kept (λ leaf. 1 ≤ leaf.number) e new chain (λ leaf h _. h)
              (taken_some (pages_of (e ∷ rest) ++ pages_in chain) s held.apart some) none
              placed.chain_is.numbered;
          entered = All-add (IsEntry version) e new chain held.entered.0 placed.chain_is.entered;
          sound = reads_all (λ leaf. AreSound version leaf.records) (add e new chain)
              (leaves_kept (λ leaf. AreSound version (map record_of leaf.entries)) e new chain
              (sound_more version e small) (sound_alone version e small) none
              (all_reads (λ leaf. AreSound version leaf.records) chain placed.chain_is.sound));
        };
        free_is = record {
          kept = becomes.kept;
          are_read = becomes.rewritten.free_read;
          some = put_end chain s e some;
        };
        apart = apart_own;
        fits = fits';
      }

-- one put after others
pub put_after : (at at' at'' : ℕ → Body) (state' state'' : FreeState) (chain : Chain) (s : Space)
    (e : Entry) → BecomesPlaced at at' state' (chain, s)
    → BecomesPlaced at' at'' state'' (put_in (chain, s) e)
    → BecomesPlaced at at'' state'' (put_in (chain, s) e)
put_after at at' at'' state' state'' chain s e first second = record {
  rewritten = record {
    chain_read = second.rewritten.chain_read;
    free_read = second.rewritten.free_read;
    others = λ n none. second.rewritten.others n none
        ∙ first.rewritten.others n (put_more chain s e n none);
  };
  kept = second.kept;
}
