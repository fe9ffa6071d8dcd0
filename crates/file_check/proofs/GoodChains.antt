-- A good chain, whose pages may be seen, passes each test.
use Rattle.std.proofs.Common.{◌≡◌, ℕ, ◌+◌, ◌^◌, ◌≤◌, Bool, List, [], ◌∷◌, ◌++◌, map, flat_map, sym, ap, ◌∙◌, subst, arith}
use Rattle.std.specs.List.{AllByRecursion}
use Rattle.dbm_model.specs.Bounds.{Version}
use Rattle.dbm_model.specs.Pairs.{Key, Pair}
use Rattle.page_model.specs.Address.{Shape}
use Rattle.page_model.specs.Pages.{Body, NumberedBody, Record}
use Rattle.page_model.specs.Chain.{Entry, Chain, numbers, record_of, entries_in, leaf_pairs, pairs_in, pages_of, pages_in, IsEntry}
use Rattle.page_model.specs.PageBodies.{leaf_bodies, entry_bodies, AreRead}
use Rattle.page_model.specs.Placement.{key_bucket}
use Rattle.page_model.specs.Space.{times_of}
use Rattle.page_model.proofs.Chains.{AllByRecursion-append, AllByRecursion-left, AllByRecursion-right}
use Rattle.page_model.proofs.GoodBodies.{IsPageNumber, key_is}
use Rattle.file_check.specs.Marks.{MayBeSeen}
use Rattle.file_check.proofs.Seen.{are_seen}
use Rattle.bucket_chain.specs.Links.{SaysLink}
use Rattle.bucket_chain.specs.Chains.{ReadLeaf, chain_read, number_or, IsChainAt}
use Rattle.bucket_chain.proofs.Walks.{leaf_of, IsHere, read_as, walk_is_here, one_next}
use Rattle.file_check.specs.BucketChains.{AreInBucket, AreEntriesOf, AreNewInChain, IsBucketChain}
use Rattle.bucket_chain.proofs.ChainContents.{AreParts, parts_of}
use Rattle.bucket_chain.proofs.LeavesSound.{leaves_sound}
use Rattle.file_check.proofs.OneChain.{IsStored, are_stored, one_chain}
use Rattle.file_check.proofs.PartChains.{Any, IsPart}
use Rattle.file_check.proofs.RecordTimes.{pairs_in-append}
use Rattle.file_check.proofs.SeenPages.{few_in, numbered_in, page_numbers, may_behind, fewer_seen, times_parts, times_in_parts, times_of_leaf, entries_in-append}

-- the keys of the entries are those of the records
keys_read : (P : Key → Type 0) (entries : List Entry)
    → AllByRecursion (λ pair. P pair.0) (map (λ e. e.pair) entries)
    → AllByRecursion (λ r. P r.key) (map record_of entries)
keys_read P [] all = tt
keys_read P (e ∷ entries) all =
    (subst P (sym (key_is e.pair e.pages)) all.0, keys_read P entries all.1)

all_read : (version : Version) (at : ℕ → Body) (entries : List Entry)
    → AllByRecursion (IsStored version at) entries → AreRead at (flat_map entry_bodies entries)
all_read version at [] all = tt
all_read version at (e ∷ entries) all =
    AllByRecursion-append (λ (b : NumberedBody). at b.number ≡ b.body) (entry_bodies e)
    (flat_map entry_bodies entries) all.0.read (all_read version at entries all.1)

-- the content pages of a chain whose pages may be seen
content_numbers : (end : ℕ) (seen : List ℕ) (chain : Chain) → end ≤ 2 ^ 32
    → MayBeSeen end (seen ++ pages_in chain)
    → AllByRecursion IsPageNumber (pages_of (entries_in chain))
content_numbers end seen chain small may =
    page_numbers end (pages_of (entries_in chain)) small
    (may_behind end (numbers chain) (pages_of (entries_in chain))
    (may_behind end seen (pages_in chain) may))

module _ (version : Version) (at : ℕ → Body) (end head : ℕ) (shape : Shape) (bucket : ℕ)
    (seen : List ℕ) (chain : Chain) (is : IsBucketChain version at shape bucket head chain)
    (small : end ≤ 2 ^ 32) (may : MayBeSeen end (seen ++ pages_in chain)) where
  pub good_chain : IsChainAt version at end head chain
  good_chain = record {
    are_read = is.are_read;
    is_chain = is.is_chain;
    from = is.from;
    few = few_in end seen chain may;
    numbered = numbered_in end seen chain may;
    entered = is.entered;
    sound = leaves_sound version chain is.entered (content_numbers end seen chain small may)
        is.no_key_twice;
  }

  -- its contents stand on their pages
  pub stored : AllByRecursion (IsStored version at) (entries_in chain)
  stored = are_stored version at (entries_in chain) is.entered
      (content_numbers end seen chain small may)
      (AllByRecursion-right (λ (b : NumberedBody). at b.number ≡ b.body) (leaf_bodies chain)
      (flat_map entry_bodies (entries_in chain)) is.are_read)

  module _ (n kind step pairs : ℕ) (marks : List Bool)
      (part : IsPart version at end head shape bucket n kind step pairs marks seen) where
    pub good_page : IsHere version at (chain_read chain) part.walk.before n kind
    good_page = walk_is_here version at end head Any n kind step (chain_read chain)
        (read_as version at end head chain good_chain) part.walk

    parts : AreParts chain part.walk.before good_page.leaf good_page.later
    parts = parts_of chain part.walk.before good_page.leaf good_page.later good_page.parts

    -- the pages that were passed are the first of the chain
    front_is : part.chain ≡ parts.front
    front_is = one_chain version at part.chain parts.front
        (are_stored version at (entries_in part.chain) part.good.entered
        (content_numbers end seen part.chain small
        (are_seen marks end (seen ++ pages_in part.chain) part.marked)) part.good.contents)
        (AllByRecursion-left (IsStored version at) (entries_in parts.front)
        (entries_in (parts.page ∷ parts.later))
        (subst (AllByRecursion (IsStored version at))
        (ap entries_in parts.parts ∙ entries_in-append parts.front (parts.page ∷ parts.later))
        stored))
        (part.read ∙ sym parts.front_read)

    number_is : n ≡ parts.page.number
    number_is = good_page.number ∙ sym (ap (λ (l : ReadLeaf). l.number) parts.page_read)

    -- how often a page stands among those of the chain
    times_are : (m : ℕ) → times_of m (seen ++ pages_in chain)
        ≡ times_of m ((seen ++ pages_in part.chain) ++ n ∷ [])
        + times_of m (pages_of parts.page.entries) + times_of m (pages_in parts.later)
    times_are m = omega (
      arith,
      times_parts m seen (pages_in chain),
      times_parts m (seen ++ pages_in part.chain) (n ∷ []),
      times_parts m seen (pages_in part.chain),
      ap (λ (c : Chain). times_of m (pages_in c)) front_is,
      ap (λ (c : Chain). times_of m (pages_in c)) parts.parts,
      times_in_parts m parts.front (parts.page ∷ parts.later),
      times_in_parts m (parts.page ∷ []) parts.later,
      times_of_leaf m parts.page,
      ap (λ (k : ℕ). times_of m (k ∷ [])) number_is,
    )

    -- the page may be marked
    pub good_mark : MayBeSeen end ((seen ++ pages_in part.chain) ++ n ∷ [])
    good_mark = fewer_seen end (seen ++ pages_in chain) ((seen ++ pages_in part.chain) ++ n ∷ [])
        (λ m. omega (arith, times_are m)) may

    -- so may those of its contents
    pub good_entries : List Entry
    good_entries = parts.page.entries

    pub good_marks : MayBeSeen end
        (((seen ++ pages_in part.chain) ++ n ∷ []) ++ pages_of good_entries)
    unfolding good_entries
    good_marks = fewer_seen end (seen ++ pages_in chain)
        (((seen ++ pages_in part.chain) ++ n ∷ []) ++ pages_of parts.page.entries)
        (λ m. omega (
          arith,
          times_are m,
          times_parts m ((seen ++ pages_in part.chain) ++ n ∷ []) (pages_of parts.page.entries),
        )) may

    module _ (next : ℕ) (records : List Record)
        (link : SaysLink version at n kind next records) where
      records_are : records ≡ good_page.leaf.records
      records_are = (one_next version at n kind next (number_or good_page.later 0) records
          good_page.leaf.records link good_page.link).1

      entries_are : map record_of parts.page.entries ≡ records
      entries_are = ap (λ (l : ReadLeaf). l.records) parts.page_read ∙ sym records_are

      -- its keys are in their bucket
      pub good_keys : AreInBucket shape bucket records
      good_keys =
          let P : Pair → Type 0 = λ (pair : Pair). key_bucket shape pair.0 ≡ bucket in
          let all = subst (AllByRecursion P) (ap pairs_in parts.parts
          ∙ pairs_in-append parts.front (parts.page ∷ parts.later)) is.in_bucket in
          subst (AllByRecursion (λ (r : Record). key_bucket shape r.key ≡ bucket)) entries_are
          (keys_read (λ (key : Key). key_bucket shape key ≡ bucket) parts.page.entries
          (AllByRecursion-left P (leaf_pairs parts.page) (pairs_in parts.later)
          (AllByRecursion-right P (pairs_in parts.front)
          (leaf_pairs parts.page ++ pairs_in parts.later) all)))

      -- and are new in the chain
      pub good_new : AreNewInChain version at end head n records chain
      good_new =
          let same : good_page.leaf ≡ leaf_of n records =
          (λ i. record { number = sym good_page.number i; records = sym records_are i }) in
          record {
            before = part.walk.before;
            behind = good_page.later;
            is = good_chain;
            parts = good_page.parts
                ∙ ap (λ (leaf : ReadLeaf). part.walk.before ++ leaf ∷ good_page.later) same;
            no_key_twice = is.no_key_twice;
          }

      -- its contents are those of its entries
      pub good_contents : AreEntriesOf version at records good_entries
      unfolding good_entries
      good_contents =
          let entries = subst (AllByRecursion (IsEntry version))
          (ap entries_in parts.parts ∙ entries_in-append parts.front (parts.page ∷ parts.later))
          is.entered in
          let all = subst (AllByRecursion (IsStored version at))
          (ap entries_in parts.parts ∙ entries_in-append parts.front (parts.page ∷ parts.later))
          stored in
          record {
            are = entries_are;
            entered = AllByRecursion-left (IsEntry version) parts.page.entries
                (entries_in parts.later)
                (AllByRecursion-right (IsEntry version) (entries_in parts.front)
                (parts.page.entries ++ entries_in parts.later) entries);
            are_read = all_read version at parts.page.entries
                (AllByRecursion-left (IsStored version at) parts.page.entries
                (entries_in parts.later)
                (AllByRecursion-right (IsStored version at) (entries_in parts.front)
                (parts.page.entries ++ entries_in parts.later) all));
          }
