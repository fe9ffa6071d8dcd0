-- The pages of a chain that were checked so far.
use Rattle.std.proofs.Common.{◌≡◌, ◌≢◌, ⊎_elim, ℕ, ◌+◌, ◌-◌, ◌^◌, ◌≤◌, min, Bool, List, [], ◌∷◌, ◌++◌, length, map, flat_map, refl, sym, ap, ◌∙◌, subst, arith, append-nil, length-append}
use Rattle.std.specs.List.{AllByRecursion}
use Rattle.std.proofs.lemmas.Bool.{cases_eq}
use Rattle.std.proofs.lemmas.List.{length-map, map-append}
use Rattle.std.proofs.lemmas.List.Concat.{flat_map-append}
use Rattle.dbm_model.specs.Bounds.{Version}
use Rattle.dbm_model.specs.Pairs.{Key, Pair}
use Rattle.page_model.specs.Address.{Shape}
use Rattle.page_model.specs.PairLists.{times, HasBytes}
use Rattle.page_model.specs.Pages.{Body, NumberedBody, Record}
use Rattle.page_model.specs.Chain.{Entry, Leaf, Chain, record_of, entries_in, leaf_pairs, pairs_in, pages_of, pages_in, used, IsEntry}
use Rattle.page_model.specs.PageBodies.{entry_bodies, AreRead}
use Rattle.page_model.specs.Placement.{key_bucket}
use Rattle.page_model.specs.Reading.{slot_count}
use Rattle.page_model.specs.Slots.{taken}
use Rattle.page_model.proofs.Chains.{AllByRecursion-append}
use Rattle.page_model.proofs.GoodBodies.{key_is}
use Rattle.file_check.specs.Marks.{AreMarked}
use Rattle.file_check.proofs.Seen.{are_seen}
use Rattle.page_io.specs.BucketPages.{IsPageOf, page_records}
use Rattle.slot_page.proofs.Pages.{counted}
use Rattle.bucket_chain.specs.Links.{SaysLink}
use Rattle.bucket_chain.specs.Chains.{ReadLeaf, ReadChain, leaf_read, chain_read, all_records, BeginsAt}
use Rattle.bucket_chain.proofs.Walks.{leaf_of, IsUnderWay, walk_starts, walk_goes_on, passed_more, numbered_more}
use Rattle.file_check.specs.BucketChains.{AreInBucket, AreApart, HasNewKeys, AreContentsChecked, IsChecked}
use Rattle.file_check.proofs.ApartRecords.{once_in, apart_comes}
use Rattle.file_check.proofs.ReadChains.{read_chain}
use Rattle.file_check.proofs.RecordTimes.{comes, comes-append, comes_of_entries, comes_read, times-append, pairs_in-append}
use Rattle.file_check.proofs.SameWays.{AreOthers, same_way}
use Rattle.file_check.proofs.SeenPages as seen_pages
use Rattle.file_check.proofs.SeenPages.{same_marked, new_page, times_parts, times_of_leaf, entries_in-append}

-- of a page that was passed nothing more is said
abbrev pub Any : ReadLeaf → Type 0
Any leaf = Unit {0}

-- pages of a bucket, and their contents
pub record AreGoodLeaves (version : Version) (at : ℕ → Body) (shape : Shape) (bucket : ℕ)
    (chain : Chain) : Type 0 where
  pub fits : AllByRecursion (λ leaf. used leaf ≤ 2032) chain
  pub entered : AllByRecursion (IsEntry version) (entries_in chain)
  pub contents : AreRead at (flat_map entry_bodies (entries_in chain))
  pub in_bucket : AllByRecursion (λ pair. key_bucket shape pair.0 ≡ bucket) (pairs_in chain)
  pub bytes : AllByRecursion HasBytes (pairs_in chain)
  pub once : (key : Key) → times key (pairs_in chain) ≤ 1

-- The walk stands at page n; what it passed is checked, counted and marked.
pub record IsPart (version : Version) (at : ℕ → Body) (end head : ℕ) (shape : Shape)
    (bucket n kind step pairs : ℕ) (marks : List Bool) (seen : List ℕ) : Type 0 where
  pub walk : IsUnderWay at head Any n kind step
  pub chain : Chain
  pub read : chain_read chain ≡ walk.before
  pub good : AreGoodLeaves version at shape bucket chain
  pub many : pairs ≡ min (length (pairs_in chain)) (2 ^ 32 - 1)
  pub marked : AreMarked marks end (seen ++ pages_in chain)

pub no_part : (version : Version) (at : ℕ → Body) (end head : ℕ) (shape : Shape) (bucket : ℕ)
    (marks : List Bool) (seen : List ℕ) → AreMarked marks end seen
    → IsPart version at end head shape bucket head 3 0 0 marks seen
unfolding walk_starts
no_part version at end head shape bucket marks seen are = record {
  walk = walk_starts at head Any;
  chain = [];
  read = refl;
  good = record {
    fits = tt;
    entered = tt;
    contents = tt;
    in_bucket = tt;
    bytes = tt;
    once = λ key. omega arith;
  };
  many = refl;
  marked = subst (AreMarked marks end) (sym (append-nil seen)) are;
}

-- a key of the page that no page before it has
none_before : (key : Key) (records : List Record) (before : ReadChain)
    → AllByRecursion (λ leaf. AreApart records leaf.records) before → comes key records ≢ 0
    → comes key (all_records before) ≡ 0
none_before key records [] apart some = refl
none_before key records (leaf ∷ rest) apart some = omega (
  arith,
  apart_comes key records leaf.records apart.0 some,
  comes-append key leaf.records (all_records rest),
  none_before key records rest apart.1 some,
)

-- what holds of the keys of the records holds of those of the entries
keys_of : (P : Key → Type 0) (entries : List Entry)
    → AllByRecursion (λ r. P r.key) (map record_of entries)
    → AllByRecursion (λ pair. P pair.0) (map (λ e. e.pair) entries)
keys_of P [] all = tt
keys_of P (e ∷ entries) all =
    (subst P (key_is e.pair e.pages) all.0, keys_of P entries all.1)

pairs_of_all : (P : Pair → Type 0) (entries : List Entry) → AllByRecursion (λ e. P e.pair) entries
    → AllByRecursion P (map (λ e. e.pair) entries)
pairs_of_all P [] all = tt
pairs_of_all P (e ∷ entries) all = (all.0, pairs_of_all P entries all.1)

-- one page more
leaves_more : (version : Version) (at : ℕ → Body) (shape : Shape) (bucket n : ℕ)
    (chain : Chain) (entries : List Entry) → AreGoodLeaves version at shape bucket chain
    → taken (map record_of entries) ≤ 2032 → AllByRecursion (IsEntry version) entries
    → AreRead at (flat_map entry_bodies entries)
    → AllByRecursion (λ pair. key_bucket shape pair.0 ≡ bucket) (map (λ e. e.pair) entries)
    → AllByRecursion HasBytes (map (λ e. e.pair) entries)
    → ((key : Key) → times key (pairs_in chain) + times key (map (λ e. e.pair) entries) ≤ 1)
    → AreGoodLeaves version at shape bucket
    (chain ++ record { number = n; entries = entries } ∷ [])
leaves_more version at shape bucket n chain entries good fits entered contents in_bucket bytes
    once =
    let leaf : Leaf = record { number = n; entries = entries } in
    let pairs : List Pair = map (λ e. e.pair) entries in
    let all_entries : entries_in (chain ++ leaf ∷ []) ≡ entries_in chain ++ entries =
    entries_in-append chain (leaf ∷ [])
    ∙ ap (λ (es : List Entry). entries_in chain ++ es) (append-nil entries) in
    let all_pairs : pairs_in (chain ++ leaf ∷ []) ≡ pairs_in chain ++ pairs =
    pairs_in-append chain (leaf ∷ [])
    ∙ ap (λ (ps : List Pair). pairs_in chain ++ ps) (append-nil pairs) in
    record {
      fits = AllByRecursion-append (λ (leaf : Leaf). used leaf ≤ 2032) chain (leaf ∷ []) good.fits
          (fits, tt);
      entered = subst (AllByRecursion (IsEntry version)) (sym all_entries)
          (AllByRecursion-append (IsEntry version) (entries_in chain) entries good.entered
          entered);
      contents = subst (AreRead at)
          (sym (ap (flat_map entry_bodies) all_entries
          ∙ flat_map-append entry_bodies (entries_in chain) entries))
          (AllByRecursion-append (λ (b : NumberedBody). at b.number ≡ b.body)
          (flat_map entry_bodies (entries_in chain)) (flat_map entry_bodies entries) good.contents
          contents);
      in_bucket = subst (AllByRecursion (λ (pair : Pair). key_bucket shape pair.0 ≡ bucket))
          (sym all_pairs)
          (AllByRecursion-append (λ (pair : Pair). key_bucket shape pair.0 ≡ bucket)
          (pairs_in chain) pairs good.in_bucket in_bucket);
      bytes = subst (AllByRecursion HasBytes) (sym all_pairs)
          (AllByRecursion-append HasBytes (pairs_in chain) pairs good.bytes bytes);
      once = λ key. omega (
        arith,
        once key,
        ap (times key) all_pairs,
        times-append key (pairs_in chain) pairs,
      );
    }

-- one page more was read and marked, found to have new keys of the bucket alone, and its contents
-- were read and marked
module _ (version : Version) (at : ℕ → Body) (end head : ℕ) (shape : Shape)
    (bucket n kind step next old new slots : ℕ) (marks now after : List Bool) (seen bytes : List ℕ)
    (part : IsPart version at end head shape bucket n kind step old marks seen)
    (link : SaysLink version at n kind next (page_records bytes)) (some : 1 ≤ n)
    (page : IsPageOf version bytes)
    (keys : AreInBucket shape bucket (page_records bytes))
    (fresh : HasNewKeys at head n (page_records bytes))
    (marked : AreMarked now end ((seen ++ pages_in part.chain) ++ n ∷ []))
    (checked : AreContentsChecked version at end (page_records bytes) after
    ((seen ++ pages_in part.chain) ++ n ∷ []))
    (sum : new ≡ min (old + slots) (2 ^ 32 - 1)) (count : slots ≡ slot_count bytes) where
  abbrev leaf : Leaf
  leaf = record { number = n; entries = checked.entries }

  abbrev chain : Chain
  chain = part.chain ++ leaf ∷ []

  read_now : chain_read chain ≡ part.walk.before ++ leaf_of n (page_records bytes) ∷ []
  read_now = map-append leaf_read part.chain (leaf ∷ [])
      ∙ λ i. part.read i ++ record { number = n; records = checked.are.are i } ∷ []

  -- the pages that were looked at for its keys are those that were passed
  apart : AllByRecursion (λ leaf. AreApart (page_records bytes) leaf.records) part.walk.before
  apart =
      let others : AreOthers n part.walk.before = subst (AreOthers n) part.read
      (new_page end n seen part.chain
      (are_seen now end ((seen ++ pages_in part.chain) ++ n ∷ []) marked)) in
      subst (AllByRecursion (λ (leaf : ReadLeaf). AreApart (page_records bytes) leaf.records))
      (sym (same_way at head n part.walk.before fresh.before part.walk.has_passed others fresh.way))
      fresh.apart

  once_now : (key : Key)
      → times key (pairs_in part.chain) + times key (map (λ e. e.pair) checked.entries) ≤ 1
  once_now key =
      let here = once_in key (page_records bytes) link.sound.distinct in
      let past = part.good.once key in
      let before = sym (comes_read key part.chain)
      ∙ ap (λ (c : ReadChain). comes key (all_records c)) part.read in
      let own = sym (comes_of_entries key checked.entries) ∙ ap (comes key) checked.are.are in
      ⊎_elim (λ none. omega (arith, none, past, own))
      (λ has. omega (
        arith,
        here,
        before,
        own,
        none_before key (page_records bytes) part.walk.before apart has,
      ))
      (cases_eq (comes key (page_records bytes)) 0)

  good_now : AreGoodLeaves version at shape bucket chain
  good_now = leaves_more version at shape bucket n part.chain checked.entries part.good
      (subst (λ (rs : List Record). taken rs ≤ 2032) (sym checked.are.are) page.page.sound.fits)
      checked.are.entered checked.are.are_read
      (keys_of (λ (key : Key). key_bucket shape key ≡ bucket) checked.entries
      (subst (AllByRecursion (λ (r : Record). key_bucket shape r.key ≡ bucket))
      (sym checked.are.are) keys))
      (pairs_of_all HasBytes checked.entries checked.bytes) once_now

  many_now : new ≡ min (length (pairs_in chain)) (2 ^ 32 - 1)
  many_now = omega (
    arith,
    sum,
    count,
    part.many,
    (counted bytes page.page).count_is,
    ap length checked.are.are,
    length-map checked.entries record_of,
    length-map checked.entries (λ (e : Entry). e.pair),
    ap length (pairs_in-append part.chain (leaf ∷ [])),
    length-append (pairs_in part.chain) (pairs_in (leaf ∷ [])),
    length-append (leaf_pairs leaf) (pairs_in []),
  )

  marked_now : AreMarked after end (seen ++ pages_in chain)
  marked_now = same_marked after end
      (((seen ++ pages_in part.chain) ++ n ∷ []) ++ pages_of checked.entries)
      (seen ++ pages_in chain)
      (λ m. omega (
        arith,
        times_parts m ((seen ++ pages_in part.chain) ++ n ∷ []) (pages_of checked.entries),
        times_parts m (seen ++ pages_in part.chain) (n ∷ []),
        times_parts m seen (pages_in part.chain),
        times_parts m seen (pages_in chain),
        seen_pages.times_in_parts m part.chain (leaf ∷ []),
        times_of_leaf m leaf,
      )) checked.marked

  -- it is not the last
  pub part_more : next ≢ 0
      → IsPart version at end head shape bucket next 4 (step + 1) new after seen
  unfolding walk_goes_on
  part_more more = record {
    walk = walk_goes_on version at head Any n kind step part.walk next (page_records bytes) link
        some more tt;
    chain = chain;
    read = read_now;
    good = good_now;
    many = many_now;
    marked = marked_now;
  }

  -- it is the last
  pub is_checked : next ≡ 0 → IsChecked version at end shape bucket head new after seen
  is_checked last =
      let begins = subst (λ (c : ReadChain). BeginsAt at head c 0) (sym read_now)
      (subst (BeginsAt at head (part.walk.before ++ leaf_of n (page_records bytes) ∷ [])) last
      (passed_more version at head Any n kind step part.walk next (page_records bytes) link)) in
      let read = read_chain at head chain begins good_now.fits good_now.contents in
      record {
        chain = chain;
        is = record {
          are_read = read.are_read;
          is_chain = read.is_chain;
          from = read.from;
          in_bucket = good_now.in_bucket;
          no_key_twice = good_now.once;
          bytes = good_now.bytes;
          entered = good_now.entered;
        };
        numbered = as_numbered chain (subst
            (AllByRecursion (λ (leaf : ReadLeaf). 1 ≤ leaf.number)) (sym read_now)
            (numbered_more version at head Any n kind step part.walk (page_records bytes) some));
        many = many_now;
        marked = marked_now;
      }
    where
      as_numbered : (chain : Chain)
          → AllByRecursion (λ leaf. 1 ≤ leaf.number) (chain_read chain)
          → AllByRecursion (λ leaf. 1 ≤ leaf.number) chain
      as_numbered [] all = tt
      as_numbered (first ∷ rest) all = (all.0, as_numbered rest all.1)
