-- Where a walk that looks for a key ends, in a chain that is read as one.
use Rattle.std.proofs.Common.{◌≡◌, ◌≢◌, ℕ, zero, suc, ◌<◌, ◌≤◌, Bool, true, false, cond, List, [], ◌∷◌, ◌++◌, length, map, get_or, None, Some, refl, sym, ap, ◌∙◌, subst, arith, append_assoc, append-nil, length-append}
use Rattle.std.specs.List.{AllByRecursion, HoldsAt, Contains}
use Rattle.std.specs.FinMap.{find}
use Rattle.std.proofs.lemmas.List.{get_or_default, get_or_append_left}
use Rattle.std.proofs.lemmas.List.Elements.{recursion_from_All}
use Rattle.std.proofs.lemmas.List.Sums.{sum_by-cons}
use Rattle.std.proofs.lemmas.List.Concat.{flat_map-append}
use Rattle.std.proofs.lemmas.Map.Text.{is_eq-slice_cmp}
use Rattle.std.proofs.lemmas.Slice.Eq.{bytes_eq-Decides}
use Rattle.dbm_model.specs.Bounds.{Version}
use Rattle.dbm_model.specs.Pairs.{Key, Pair, key_cmp}
use Rattle.page_model.specs.PairLists.{has_key, times}
use Rattle.page_model.specs.Pages.{Body, Record}
use Rattle.page_model.specs.Chain.{Entry, Chain, entries_in, pairs_in, record_of}
use Rattle.page_model.proofs.Chains.{AllByRecursion-append, AllByRecursion-right, pairs_of_entries}
use Rattle.page_model.proofs.GoodBodies.{key_is}
use Rattle.page_model.proofs.PairLists.{value_in}
use Rattle.page_model.proofs.Places.{same_key}
use Rattle.page_io.specs.BucketPages.{IsBucketPage, page_records}
use Rattle.slot_page.specs.Contents.{HasKeyAt, IsAbsent}
use Rattle.bucket_chain.specs.Links.{SaysLink}
use Rattle.bucket_chain.specs.Chains.{ReadLeaf, ReadChain, chain_read, record_pair, all_records, number_or, IsChainAt}
use Rattle.bucket_chain.specs.Walks.{LacksKey, IsFoundIn}
use Rattle.bucket_chain.specs.declared.place.Place.{Place}
use Rattle.bucket_chain.proofs.Walks.{leaf_of, AreNumbered, IsUnderWay, IsSplit, IsReadAs, read_as, all_records_read, begins_same, passed_more, numbered_more}

pub has_key_is : (key : Key) (pair : Pair) → pair.0 ≡ key → has_key key pair ≡ true
has_key_is key pair e = is_eq-slice_cmp key pair.0 ∙ (bytes_eq-Decides key pair.0).1 (sym e)

has_key_not : (key : Key) (pair : Pair) → pair.0 ≢ key → has_key key pair ≡ false
has_key_not key pair other = elim (has_key key pair) as
    (λ b. has_key key pair ≡ b → has_key key pair ≡ false) [
      | true ↦ λ e. absurd (other (sym (same_key key pair e)))
      | false ↦ λ e. e
    ] refl

-- ---- records without the key

abbrev pub HaveNot : Key → List Record → Type 0
HaveNot key records = AllByRecursion (λ r. r.key ≢ key) records

none_of : (key : Key) (records : List Record) → HaveNot key records
    → times key (map record_pair records) ≡ 0
none_of key [] others = refl
none_of key (r ∷ records) others =
    let none : cond {A = ℕ} (has_key key (record_pair r)) 1 0 ≡ 0 =
    ap (λ (b : Bool). cond b 1 0) (has_key_not key (record_pair r) others.0) in
    omega (
      arith,
      none,
      sum_by-cons (λ (q : Pair). cond (has_key key q) 1 0) (record_pair r)
          (map record_pair records),
      none_of key records others.1,
    )

-- a key that no record has does not come
pub absent_times : (key : Key) (records : List Record) → IsAbsent key records
    → times key (map record_pair records) ≡ 0
absent_times key records absent =
    none_of key records (recursion_from_All (λ (r : Record). r.key ≢ key) records absent)

-- and back
have_not : (key : Key) (records : List Record) → times key (map record_pair records) ≡ 0
    → HaveNot key records
have_not key [] none = tt
have_not key (r ∷ records) none =
    let both = sum_by-cons (λ (q : Pair). cond (has_key key q) 1 0) (record_pair r)
    (map record_pair records) in (
      λ same. let one : cond {A = ℕ} (has_key key (record_pair r)) 1 0 ≡ 1 =
          ap (λ (b : Bool). cond {A = ℕ} b 1 0) (has_key_is key (record_pair r) same) in
          omega (arith, both, none, one),
      have_not key records (omega (arith, both, none)),
    )

-- pages without it
all_have_not : (key : Key) (chain : ReadChain) → AllByRecursion (LacksKey key) chain
    → HaveNot key (all_records chain)
all_have_not key [] lack = tt
all_have_not key (leaf ∷ chain) lack =
    AllByRecursion-append (λ (r : Record). r.key ≢ key) leaf.records (all_records chain)
    (have_not key leaf.records lack.0) (all_have_not key chain lack.1)

-- ---- the first entry of a key

abbrev entry_pairs : List Entry → List Pair
entry_pairs entries = map (λ e. e.pair) entries

-- its record is the one in a slot of these records
pub record IsFirstOf (key : Key) (entries : List Entry) (records : List Record)
    (slot : ℕ) : Type 0 where
  pub entry : Entry
  pub among : Contains entries entry
  pub key_is : entry.pair.0 ≡ key
  pub there : HoldsAt (λ r. r ≡ record_of entry) records slot
  pub found : value_in key (entry_pairs entries) ≡ Some entry.pair.1

-- no slot before it has the key
abbrev IsFirstSlot : Key → List Record → ℕ → Type 0
IsFirstSlot key records slot =
    (k : ℕ) (d : Record) → k < slot → (get_or records k d).key ≢ key

-- one more entry in front, with another key
entry_before : (key : Key) (first : Entry) (entries : List Entry) (records : List Record) (slot : ℕ)
    (other : List Record) (place : ℕ) → (record_of first).key ≢ key
    → IsFirstOf key entries records slot
    → ((r : Record) → HoldsAt (λ q. q ≡ r) records slot → HoldsAt (λ q. q ≡ r) other place)
    → IsFirstOf key (first ∷ entries) other place
entry_before key first entries records slot other place not found moved =
    let differs : first.pair.0 ≢ key =
    λ same. not (key_is first.pair first.pages ∙ same) in
    record {
      entry = found.entry;
      among = (suc found.among.0, omega (arith, found.among.1), found.among.2);
      key_is = found.key_is;
      there = moved (record_of found.entry) found.there;
      found = ap (λ (b : Bool). cond b (Some first.pair.1) (value_in key (entry_pairs entries)))
          (has_key_not key first.pair differs) ∙ found.found;
    }

found_here : (key : Key) (entries : List Entry) (slot : ℕ)
    → HasKeyAt key (map record_of entries) slot → IsFirstSlot key (map record_of entries) slot
    → IsFirstOf key entries (map record_of entries) slot
found_here key [] slot has first = absurd (omega (arith, has.0))
found_here key (e ∷ entries) zero has first =
    let same : e.pair.0 ≡ key = sym (key_is e.pair e.pages) ∙ has.1 (record_of e) in
    record {
      entry = e;
      among = (0, omega arith, refl);
      key_is = same;
      there = λ d. refl;
      found = ap (λ (b : Bool). cond b (Some e.pair.1) (value_in key (entry_pairs entries)))
          (has_key_is key e.pair same);
    }
found_here key (e ∷ entries) (suc i) has first =
    let rest = found_here key entries i (omega (arith, has.0), λ d. has.1 d)
    (λ k d lt. first (suc k) d (omega (arith, lt))) in
    entry_before key e entries (map record_of entries) i (record_of e ∷ map record_of entries)
    (suc i) (first 0 (record_of e) (omega arith)) rest (λ r held. λ d. held d)

-- behind records without it
found_behind : (key : Key) (entries : List Entry) (passed rest : List Record) (slot : ℕ)
    → HaveNot key passed → map record_of entries ≡ passed ++ rest → HasKeyAt key rest slot
    → IsFirstSlot key rest slot → IsFirstOf key entries rest slot
found_behind key entries [] rest slot lack e has first =
    subst (λ (rs : List Record). IsFirstOf key entries rs slot) e
    (found_here key entries slot
    (subst (λ (rs : List Record). HasKeyAt key rs slot) (sym e) has)
    (subst (λ (rs : List Record). IsFirstSlot key rs slot) (sym e) first))
found_behind key [] (r ∷ passed) rest slot lack e has first = absurd (cc)
found_behind key (one ∷ entries) (r ∷ passed) rest slot lack e has first =
    let head : record_of one ≡ r = cc in
    let tail : map record_of entries ≡ passed ++ rest = cc in
    entry_before key one entries rest slot rest slot
    (λ same. lack.0 (ap (λ (q : Record). q.key) (sym head) ∙ same))
    (found_behind key entries passed rest slot lack.1 tail has first) (λ q held. held)

none_found : (key : Key) (entries : List Entry) → HaveNot key (map record_of entries)
    → value_in key (entry_pairs entries) ≡ None
none_found key [] lack = refl
none_found key (e ∷ entries) lack =
    let differs : e.pair.0 ≢ key = λ same. lack.0 (key_is e.pair e.pages ∙ same) in
    ap (λ (b : Bool). cond b (Some e.pair.1) (value_in key (entry_pairs entries)))
    (has_key_not key e.pair differs) ∙ none_found key entries lack.1

-- the only slot with the key is the first
first_slot : (key : Key) (records : List Record) (slot : ℕ) → HasKeyAt key records slot
    → ((k : ℕ) → HasKeyAt key records k → k ≡ slot) → IsFirstSlot key records slot
first_slot key records slot has only k d lt same =
    let again = only k (
      omega (arith, lt, has.0),
      λ d'. ap (λ (r : Record). r.key)
          (get_or_default records k d' d (omega (arith, lt, has.0))) ∙ same,
    ) in
    omega (arith, again, lt)

-- nothing follows the last page
pub none_later : (later : ReadChain) → AreNumbered later → number_or later 0 ≡ 0 → later ≡ []
none_later [] numbered e = refl
none_later (leaf ∷ later) numbered e = absurd (omega (arith, e, numbered.0))

module _ (version : Version) (at : ℕ → Body) (end head : ℕ) (chain : Chain) (key : Key)
    (n kind step next : ℕ) (records : List Record) (is : IsChainAt version at end head chain)
    (walk : IsUnderWay at head (LacksKey key) n kind step)
    (link : SaysLink version at n kind next records) (some : 1 ≤ n) where
  as_read : IsReadAs version at end head (chain_read chain)
  as_read = read_as version at end head chain is

  split : IsSplit (chain_read chain) (walk.before ++ leaf_of n records ∷ []) next
  split = begins_same version at end head (walk.before ++ leaf_of n records ∷ [])
      (chain_read chain) next
      (passed_more version at head (LacksKey key) n kind step walk next records link)
      (numbered_more version at head (LacksKey key) n kind step walk records some) as_read

  chain_is : chain_read chain ≡ walk.before ++ (leaf_of n records ∷ split.later)
  chain_is = split.parts ∙ append_assoc walk.before (leaf_of n records ∷ []) split.later

  entries_are : map record_of (entries_in chain)
      ≡ all_records walk.before ++ (records ++ all_records split.later)
  entries_are = sym (all_records_read chain) ∙ ap all_records chain_is
      ∙ flat_map-append (λ (leaf : ReadLeaf). leaf.records) walk.before
      (leaf_of n records ∷ split.later)

  -- the page has the key
  pub looked_up : (bytes : List ℕ) (place : Place) → IsBucketPage bytes
      → page_records bytes ≡ records → HasKeyAt key records place.slot
      → ((k : ℕ) → HasKeyAt key records k → k ≡ place.slot) → IsFoundIn key chain bytes place
  looked_up bytes place page read has only =
      let slot = place.slot in
      let rest = records ++ all_records split.later in
      let here : (k : ℕ) (d : Record) → k < length records
      → get_or rest k d ≡ get_or records k d =
      λ k d lt. get_or_append_left records (all_records split.later) d k lt in
      let has_rest : HasKeyAt key rest slot = (
        omega (arith, has.0, length-append records (all_records split.later)),
        λ d. ap (λ (r : Record). r.key) (here slot d has.0) ∙ has.1 d,
      ) in
      let first : IsFirstSlot key rest slot =
      λ k d lt same. first_slot key records slot has only k d lt
      (ap (λ (r : Record). r.key) (sym (here k d (omega (arith, lt, has.0)))) ∙ same) in
      let found = found_behind key (entries_in chain) (all_records walk.before) rest slot
      (all_have_not key walk.before walk.passed) entries_are has_rest first in
      record {
        entry = found.entry;
        among = found.among;
        key_is = found.key_is;
        page = page;
        within = subst (λ (rs : List Record). HasKeyAt key rs slot) (sym read) has;
        there = subst (λ (rs : List Record). HoldsAt (λ r. r ≡ record_of found.entry) rs slot)
            (sym read) (λ d. sym (here slot d has.0) ∙ found.there d);
        found = ap (value_in key) (pairs_of_entries chain) ∙ found.found;
      }

  -- it is the last, and lacks the key too
  pub not_there : next ≡ 0 → times key (map record_pair records) ≡ 0
      → find key_cmp key (pairs_in chain) ≡ None
  not_there last lacks =
      let numbered = AllByRecursion-right (λ (leaf : ReadLeaf). 1 ≤ leaf.number)
      (walk.before ++ leaf_of n records ∷ []) split.later
      (subst AreNumbered split.parts as_read.numbered) in
      let nothing = none_later split.later numbered (sym split.next ∙ last) in
      let all : map record_of (entries_in chain) ≡ all_records walk.before ++ records =
      entries_are ∙ ap (λ (c : ReadChain). all_records walk.before ++ (records ++ all_records c))
      nothing ∙ ap (λ (rs : List Record). all_records walk.before ++ rs) (append-nil records) in
      let lack : HaveNot key (all_records walk.before ++ records) =
      AllByRecursion-append (λ (r : Record). r.key ≢ key) (all_records walk.before) records
      (all_have_not key walk.before walk.passed) (have_not key records lacks) in
      ap (value_in key) (pairs_of_entries chain)
      ∙ none_found key (entries_in chain) (subst (HaveNot key) (sym all) lack)
