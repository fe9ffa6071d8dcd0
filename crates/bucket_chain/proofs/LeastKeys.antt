-- The least key of the pairs that were read, as more are read.
use Rattle.std.proofs.Common.{◌≡◌, ℕ, ◌+◌, ◌<◌, ◌↔◌, Bool, true, false, cond, List, [], ◌∷◌, ◌++◌, map, get_or, take, Option, None, Some, IsTrue, refl, sym, ap, ◌∙◌, subst, arith}
use Rattle.std.specs.Prelude.{IfSome, IfNone}
use Rattle.std.specs.Cmp.{IsTotalOrder}
use Rattle.std.specs.Cmp.Lexicographic.{on_texts}
use Rattle.std.specs.declared.cmp.Ordering.{Ordering}
use Rattle.std.specs.declared.cmp.Ordering.TheVariants.{Less, Equal, Greater}
use Rattle.std.specs.Ordering.{ordering_reverse}
use Rattle.std.specs.List.{AllByRecursion, HoldsAt}
use Rattle.std.proofs.lemmas.Cmp.{tied_itself, alike_right}
use Rattle.std.proofs.lemmas.List.{take_more, length-map, get_or-map}
use Rattle.std.proofs.lemmas.List.Sums.{sum_by-append, sum_by-cons}
use Rattle.dbm_model.specs.KeyOrder.{hash_of, rank, pass_cmp, ComesBefore}
use Rattle.dbm_model.specs.Pairs.{Key, Pair}
use Rattle.dbm_model.specs.States.{Pass}
use Rattle.dbm_model.specs.Steps.{IsAhead}
use Rattle.page_model.specs.PairLists.{has_key, times}
use Rattle.page_model.specs.Pages.{Record}
use Rattle.page_model.specs.Chain.{Entry, Chain, entries_in, pairs_in, record_of}
use Rattle.page_model.proofs.Chains.{AllByRecursion-append, pairs_of_entries}
use Rattle.page_model.proofs.GoodBodies as bodies
use Rattle.page_io.specs.BucketPages.{IsBucketPage, page_records}
use Rattle.slot_page.specs.Contents.{HasKeyAt}
use Rattle.bucket_chain.specs.Chains.{record_pair}
use Rattle.bucket_chain.specs.Bests.{slot_of, IsRankedAt}
use Rattle.bucket_chain.specs.Leasts.{IsLeastKey, IsLeastAt, IsLeast, IsAheadAt}
use Rattle.bucket_chain.specs.declared.leasts.Best.{Best}
use Rattle.bucket_chain.proofs.KeyWalks.{has_key_is}

-- ---- the order of keys

-- what comes before one key comes before each that isn't before it
before_rest : {K : Type 0} {R : K → K → Ordering} → IsTotalOrder R → (x best other : K)
    → R x best ≡ Less → (R other best ≡ Less → ⊥) → R x other ≡ Less
before_rest {K} {R} o x best other before not = elim (R other best) as
    (λ r. R other best ≡ r → R x other ≡ Less) [
      | Less ↦ λ e. absurd (not e)
      | Equal ↦ λ e. alike_right o other best x e ∙ before
      | Greater ↦ λ e. o.trans x best other before (o.antisymm best other ∙ ap ordering_reverse e)
    ] refl

total : IsTotalOrder pass_cmp
total = on_texts (λ (key : Key). rank (hash_of key) ∷ key)

not_itself : (key : Key) → ComesBefore key key → ⊥
not_itself key before = let same = tied_itself total key in cc

-- ---- pairs of which none comes before a key

abbrev NoneBefore : Pass → Key → List Pair → Type 0
NoneBefore from key pairs =
    AllByRecursion (λ pair. IsAhead from pair.0 → ComesBefore pair.0 key → ⊥) pairs

abbrev pub NoneAhead : Pass → List Pair → Type 0
NoneAhead from pairs = AllByRecursion (λ pair. IsAhead from pair.0 → ⊥) pairs

none_before : (from : Pass) (key : Key) (pairs : List Pair) → NoneAhead from pairs
    → NoneBefore from key pairs
none_before from key [] none = tt
none_before from key (pair ∷ pairs) none =
    (λ ahead before. none.0 ahead, none_before from key pairs none.1)

-- the key comes before another that none comes before
none_before_less : (from : Pass) (key other : Key) (pairs : List Pair) → ComesBefore key other
    → NoneBefore from other pairs → NoneBefore from key pairs
none_before_less from key other [] less none = tt
none_before_less from key other (pair ∷ pairs) less none = (
  λ ahead before. none.0 ahead (total.trans pair.0 key other before less),
  none_before_less from key other pairs less none.1,
)

-- another that none comes before isn't before the key
none_before_rest : (from : Pass) (key other : Key) (pairs : List Pair)
    → (ComesBefore other key → ⊥) → NoneBefore from other pairs → NoneBefore from key pairs
none_before_rest from key other [] not none = tt
none_before_rest from key other (pair ∷ pairs) not none = (
  λ ahead before. none.0 ahead (before_rest total pair.0 key other before not),
  none_before_rest from key other pairs not none.1,
)

-- ---- the least key of more pairs

module _ (old here : List Pair) (from : Pass) (key : Key) where
  times_both : times key (old ++ here) ≡ times key old + times key here
  times_both = sum_by-append (λ (pair : Pair). cond (has_key key pair) 1 0) old here

  -- a key of either, before which none of both comes
  least_of : 0 < times key old + times key here → IsAhead from key → NoneBefore from key old
      → NoneBefore from key here → IsLeastKey (old ++ here) from key
  least_of among ahead none none_here = record {
    among = omega (arith, times_both, among);
    ahead = ahead;
    least = AllByRecursion-append
        (λ (pair : Pair). IsAhead from pair.0 → ComesBefore pair.0 key → ⊥) old here none none_here;
  }

-- a key alone
alone : (from : Pass) (key : Key) (content : List ℕ) → IsAhead from key
    → IsLeastKey ((key, content) ∷ []) from key
alone from key content ahead =
    let one : cond {A = ℕ} (has_key key (key, content)) 1 0 ≡ 1 =
    ap (λ (b : Bool). cond {A = ℕ} b 1 0) (has_key_is key (key, content) refl) in
    record {
      among = omega (arith, one);
      ahead = ahead;
      least = (λ _ before. not_itself key before, tt);
    }

-- ---- the key in a slot

blank : Record
blank = record { key = []; bytes = []; far = None }

pub key_is : (records : List Record) (slot : ℕ) (found key content : List ℕ)
    → HoldsAt (λ r. (r.key ≡ found) × (r.bytes ≡ content)) records slot
    → HasKeyAt key records slot → found ≡ key
key_is records slot found key content there has = sym ((there blank).0) ∙ has.1 blank

pub one_key : (records : List Record) (slot : ℕ) (key other : Key) → HasKeyAt key records slot
    → HasKeyAt other records slot → key ≡ other
one_key records slot key other has has' = sym (has.1 blank) ∙ has'.1 blank

pub same_before : (records : List Record) (slot : ℕ) (key found other : Key) (before : Bool)
    → HasKeyAt found records slot → HasKeyAt other records slot
    → IsTrue before ↔ ComesBefore key found → IsTrue before ↔ ComesBefore key other
same_before records slot key found other before has has' is =
    subst (λ (k : Key). IsTrue before ↔ ComesBefore key k)
    (one_key records slot found other has has') is

-- ---- the best slot so far

-- more pairs that the pass has behind it
pub best_over : (old here : List Pair) (from : Pass) (bytes : List ℕ) (best : Option Best)
    → IsLeast old from bytes (slot_of best) → NoneAhead from here
    → IsLeast (old ++ here) from bytes (slot_of best)
best_over old here from bytes None least none =
    AllByRecursion-append (λ (pair : Pair). IsAhead from pair.0 → ⊥) old here least none
best_over old here from bytes (Some held) least none = record {
  key = least.key;
  page = least.page;
  has = least.has;
  least = least_of old here from least.key (omega (arith, least.least.among)) least.least.ahead
      least.least.least (none_before from least.key here none);
}

-- whether a key comes before the best one so far
abbrev IsBetter : List ℕ → Option Best → Key → Bool → Type 0
IsBetter bytes best key better = IfSome best (λ at. (other : Key)
    → HasKeyAt other (page_records bytes) at.slot → IsTrue better ↔ ComesBefore key other)

-- of two slots, each with its rank, so it is of the keys in them
pub better_key : (look bytes : List ℕ) (slot : ℕ) (best : Option Best) (key : Key) (better : Bool)
    → HasKeyAt key (page_records look) slot
    → IfSome best (λ held. (key other : Key) → HasKeyAt key (page_records look) slot
    → HasKeyAt other (page_records bytes) held.slot → IsTrue better ↔ ComesBefore key other)
    → IsBetter bytes best key better
better_key look bytes slot None key better has before = tt
better_key look bytes slot (Some held) key better has before = λ other. before key other has

module _ (old here : List Pair) (from : Pass) (bytes look : List ℕ) (at : ℕ)
    (new : IsLeastAt here from look at) (key : Key) (has : HasKeyAt key
    (page_records look) at) where
  new_least : IsLeastKey here from key
  new_least = subst (IsLeastKey here from)
      (one_key (page_records look) at new.key key new.has has) new.least

  pub best_stays : (best : Option Best) (better : Bool) → IsLeast old from bytes (slot_of best)
      → IfNone best (IsTrue better) → IsBetter bytes best key better → better ≡ false
      → IsLeast (old ++ here) from bytes (slot_of best)
  best_stays None better least first before not = absurd (cc)
  best_stays (Some held) better least first before not =
      let stays : ComesBefore key least.key → ⊥ =
      λ is. (let now = (before least.key least.has).1 is in cc) in
      record {
        key = least.key;
        page = least.page;
        has = least.has;
        least = least_of old here from least.key (omega (arith, least.least.among))
            least.least.ahead least.least.least
            (none_before_rest from least.key key here stays new_least.least);
      }

  pub best_changes : (best : Option Best) (better : Bool) → IsLeast old from bytes (slot_of best)
      → IfNone best (IsTrue better) → IsBetter bytes best key better → better ≡ true
      → IsLeast (old ++ here) from look (Some at)
  best_changes best better least first before is = record {
    key = key;
    page = new.page;
    has = has;
    least = least_of old here from key (omega (arith, new_least.among)) new_least.ahead
        (none_old best least before) new_least.least;
  }
    where
      none_old : (best : Option Best) → IsLeast old from bytes (slot_of best)
          → IsBetter bytes best key better → NoneBefore from key old
      none_old None least before = none_before from key old least
      none_old (Some held) least before =
          none_before_less from key least.key old ((before least.key least.has).0 is)
          least.least.least

-- ---- what the slot is

pub best_ahead : (pairs : List Pair) (from : Pass) (bytes : List ℕ) (best : Option ℕ)
    → IsLeast pairs from bytes best → IfSome best (λ at. IsAheadAt from bytes at)
best_ahead pairs from bytes None least = tt
best_ahead pairs from bytes (Some at) least = record {
  page = least.page;
  key = least.key;
  has = least.has;
  ahead = least.least.ahead;
}

-- ---- one slot more of a page

-- the best of these pairs of the page, which the bytes are
pub record IsBest (pairs : List Pair) (from : Pass) (bytes : List ℕ) (best : Option Best)
    : Type 0 where
  pub ranked : IfSome best (IsRankedAt bytes)
  pub least : IsLeast pairs from bytes (slot_of best)

abbrev pub page_pairs : List ℕ → List Pair
page_pairs bytes = map record_pair (page_records bytes)

module _ (bytes : List ℕ) (slot : ℕ) (key : Key) (has : HasKeyAt key (page_records bytes) slot)
    (from : Pass) (best next : Option Best) (ahead : Bool)
    (ahead_is : IsTrue ahead ↔ IsAhead from key)
    (so_far : IsBest (take slot (page_pairs bytes)) from bytes best) where
  content : List ℕ
  content = (get_or (page_records bytes) slot blank).bytes

  pair_there : get_or (page_pairs bytes) slot (key, content) ≡ (key, content)
  unfolding content
  pair_there = get_or-map record_pair (page_records bytes) slot blank (key, content) has.0
      ∙ ap (λ (k : Key). (k, content)) (has.1 blank)

  with_slot : (now : Option Best) → next ≡ now → IfSome now (IsRankedAt bytes)
      → IsLeast (take slot (page_pairs bytes) ++ (key, content) ∷ []) from bytes (slot_of now)
      → IsBest (take (slot + 1) (page_pairs bytes)) from bytes next
  with_slot now same ranked least =
      subst (IsBest (take (slot + 1) (page_pairs bytes)) from bytes) (sym same) record {
        ranked = ranked;
        least = subst (λ (pairs : List Pair). IsLeast pairs from bytes (slot_of now))
            (ap (λ (p : Pair). take slot (page_pairs bytes) ++ p ∷ []) (sym pair_there)
            ∙ sym (take_more (page_pairs bytes) slot (key, content)
            (omega (arith, has.0, length-map (page_records bytes) record_pair)))) least;
      }

  -- the pass has its key behind it
  pub slot_passed : ahead ≡ false → next ≡ best
      → IsBest (take (slot + 1) (page_pairs bytes)) from bytes next
  slot_passed not same =
      let none : IsAhead from key → ⊥ = λ is. (let now = ahead_is.1 is in cc) in
      with_slot best same so_far.ranked
      (best_over (take slot (page_pairs bytes)) ((key, content) ∷ []) from bytes best so_far.least
      (none, tt))

  slot_least : IsBucketPage bytes → ahead ≡ true
      → IsLeastAt ((key, content) ∷ []) from bytes slot
  slot_least page is = record {
    key = key;
    page = page;
    has = has;
    least = alone from key content (ahead_is.0 is);
  }

  -- its key isn't less than the least before it
  pub slot_left : IsBucketPage bytes → ahead ≡ true → (better : Bool)
      → IfNone best (IsTrue better) → IsBetter bytes best key better → better ≡ false
      → next ≡ best → IsBest (take (slot + 1) (page_pairs bytes)) from bytes next
  slot_left page is better first before not same =
      with_slot best same so_far.ranked
      (best_stays (take slot (page_pairs bytes)) ((key, content) ∷ []) from bytes bytes slot
      (slot_least page is) key has best better so_far.least first before not)

  -- it is less
  pub slot_taken : IsBucketPage bytes → ahead ≡ true → (better : Bool)
      → IfNone best (IsTrue better) → IsBetter bytes best key better → better ≡ true
      → (of : ℕ) → of ≡ rank (hash_of key) → next ≡ Some (record { slot = slot; rank = of })
      → IsBest (take (slot + 1) (page_pairs bytes)) from bytes next
  slot_taken page is better first before less of of_key now =
      with_slot (Some (record { slot = slot; rank = of })) now
      record { key = key; page = page; has = has; rank_is = of_key }
      (best_changes (take slot (page_pairs bytes)) ((key, content) ∷ []) from bytes bytes slot
      (slot_least page is) key has best better so_far.least first before less)

-- ---- the pairs of entries, by their records

abbrev entry_pairs : List Entry → List Pair
entry_pairs entries = map (λ e. e.pair) entries

abbrev record_pairs : List Entry → List Pair
record_pairs entries = map record_pair (map record_of entries)

same_times : (key : Key) (entries : List Entry)
    → times key (record_pairs entries) ≡ times key (entry_pairs entries)
same_times key [] = refl
same_times key (e ∷ entries) =
    let one : cond {A = ℕ} (has_key key (record_pair (record_of e))) 1 0
    ≡ cond (has_key key e.pair) 1 0 =
    ap (λ (k : Key). cond {A = ℕ} (has_key key (k, [])) 1 0) (bodies.key_is e.pair e.pages) in
    omega (
      arith,
      one,
      same_times key entries,
      sum_by-cons (λ (q : Pair). cond (has_key key q) 1 0) (record_pair (record_of e))
          (record_pairs entries),
      sum_by-cons (λ (q : Pair). cond (has_key key q) 1 0) e.pair (entry_pairs entries),
    )

-- what is said of the keys alone
same_keys : (P : Key → Type 0) (entries : List Entry)
    → AllByRecursion (λ pair. P pair.0) (record_pairs entries)
    → AllByRecursion (λ pair. P pair.0) (entry_pairs entries)
same_keys P [] all = tt
same_keys P (e ∷ entries) all =
    (subst P (bodies.key_is e.pair e.pages) all.0, same_keys P entries all.1)

least_of_entries : (entries : List Entry) (from : Pass) (bytes : List ℕ) (best : Option ℕ)
    → IsLeast (record_pairs entries) from bytes best
    → IsLeast (entry_pairs entries) from bytes best
least_of_entries entries from bytes None least = same_keys
    (λ key. IsAhead from key → ⊥) entries least
least_of_entries entries from bytes (Some slot) least = record {
  key = least.key;
  page = least.page;
  has = least.has;
  least = record {
    among = omega (arith, least.least.among, same_times least.key entries);
    ahead = least.least.ahead;
    least = same_keys (λ key. IsAhead from key → ComesBefore key least.key → ⊥) entries
        least.least.least;
  };
}

pub least_of_chain : (chain : Chain) (records : List Record) (from : Pass) (bytes : List ℕ)
    (best : Option ℕ) → records ≡ map record_of (entries_in chain)
    → IsLeast (map record_pair records) from bytes best → IsLeast (pairs_in chain) from bytes best
least_of_chain chain records from bytes best same least =
    subst (λ (pairs : List Pair). IsLeast pairs from bytes best) (sym (pairs_of_entries chain))
    (least_of_entries (entries_in chain) from bytes best
    (subst (λ (rs : List Record). IsLeast (map record_pair rs) from bytes best) same least))
