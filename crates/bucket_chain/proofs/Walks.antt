-- A walk along a chain that has not ended, and which way it goes.
use Rattle.std.proofs.Common.{◌≡◌, ◌≢◌, ℕ, ◌+◌, ◌<◌, ◌≤◌, ◌==◌, Bool, true, false, cond, List, [], ◌∷◌, ◌++◌, length, map, flat_map, refl, sym, ap, ◌∙◌, subst, arith, length-append}
use Rattle.std.specs.List.{AllByRecursion}
use Rattle.std.proofs.lemmas.List.{length-map, map-append}
use Rattle.dbm_model.specs.Bounds.{Version}
use Rattle.page_model.specs.Pages.{Body, HeadPage, OverflowPage, Record, NumberedBody}
use Rattle.page_model.specs.Chain.{Chain, numbers, entries_in, record_of}
use Rattle.page_model.specs.PageBodies.{first_of, entry_bodies, leaf_bodies, overflow_bodies, AreRead}
use Rattle.page_model.proofs.Chains.{AllByRecursion-append, AllByRecursion-left, AllByRecursion-right}
use Rattle.bucket_chain.specs.Links.{link_body, AreSound, SaysLink}
use Rattle.bucket_chain.specs.Chains.{ReadLeaf, ReadChain, leaf_read, chain_read, all_records, IsChainAt, number_or, AreLinked, BeginsAt, kind_behind}
use Rattle.bucket_chain.specs.Walks.{IsWalk}

abbrev pub leaf_of : ℕ → List Record → ReadLeaf
leaf_of n records = record { number = n; records = records }

-- the walk from page `head` has passed these pages and stands at page n
abbrev pub HasPassed : (ℕ → Body) → ℕ → ReadChain → ℕ → Type 0
HasPassed at head [] n = n ≡ head
HasPassed at head (leaf ∷ rest) n = BeginsAt at head (leaf ∷ rest) n × (n ≢ 0)

-- page 0 is no page of a chain
abbrev pub AreNumbered : ReadChain → Type 0
AreNumbered chain = AllByRecursion (λ leaf. 1 ≤ leaf.number) chain

-- as many pages as steps were passed, each as stated
pub record IsUnderWay (at : ℕ → Body) (head : ℕ) (Passed : ReadLeaf → Type 0)
    (n kind step : ℕ) : Type 0 where
  pub before : ReadChain
  pub has_passed : HasPassed at head before n
  pub numbered : AreNumbered before
  pub passed : AllByRecursion Passed before
  pub kind_is : kind ≡ kind_behind before
  pub count : length before ≡ step

unfoldable pub walk_starts : (at : ℕ → Body) (head : ℕ) (Passed : ReadLeaf → Type 0)
    → IsUnderWay at head Passed head 3 0
walk_starts at head Passed = record {
  before = [];
  has_passed = refl;
  numbered = tt;
  passed = tt;
  kind_is = refl;
  count = refl;
}

-- one more page is read
pub number_more : (rest : ReadChain) (n next : ℕ) (records : List Record)
    → number_or (rest ++ leaf_of n records ∷ []) next ≡ number_or rest n
number_more [] n next records = refl
number_more (leaf ∷ rest) n next records = refl

pub linked_more : (at : ℕ → Body) (rest : ReadChain) (n next : ℕ) (records : List Record)
    → AreLinked at rest n → at n ≡ OverflowPage next records → 0 < length records
    → AreLinked at (rest ++ leaf_of n records ∷ []) next
linked_more at [] n next records linked says some = (says, some, tt)
linked_more at (leaf ∷ rest) n next records linked says some = (
  linked.0 ∙ ap (λ (after : ℕ). OverflowPage after leaf.records)
      (sym (number_more rest n next records)),
  linked.1,
  linked_more at rest n next records linked.2 says some,
)

begins_more : (version : Version) (at : ℕ → Body) (head : ℕ) (before : ReadChain)
    (n kind next : ℕ) (records : List Record) → HasPassed at head before n
    → kind ≡ kind_behind before → SaysLink version at n kind next records
    → BeginsAt at head (before ++ leaf_of n records ∷ []) next
begins_more version at head [] n kind next records passed is link =
    let says = subst (λ (k : ℕ). at n ≡ link_body k next records) is link.says in
    (passed, ap at (sym passed) ∙ says, tt)
begins_more version at head (leaf ∷ rest) n kind next records passed is link =
    let says = subst (λ (k : ℕ). at n ≡ link_body k next records) is link.says in
    let begins = passed.0 in (
      begins.0,
      begins.1 ∙ ap (λ (after : ℕ). HeadPage after leaf.records)
          (sym (number_more rest n next records)),
      linked_more at rest n next records begins.2 says (link.filled is),
    )

module _ (version : Version) (at : ℕ → Body) (head : ℕ) (Passed : ReadLeaf → Type 0)
    (n kind step : ℕ) (walk : IsUnderWay at head Passed n kind step) where
  pub passed_more : (next : ℕ) (records : List Record) → SaysLink version at n kind next records
      → BeginsAt at head (walk.before ++ leaf_of n records ∷ []) next
  passed_more next records link =
      begins_more version at head walk.before n kind next records walk.has_passed walk.kind_is link

  pub numbered_more : (records : List Record) → 1 ≤ n
      → AreNumbered (walk.before ++ leaf_of n records ∷ [])
  numbered_more records some =
      AllByRecursion-append (λ (leaf : ReadLeaf). 1 ≤ leaf.number) walk.before
      (leaf_of n records ∷ []) walk.numbered (some, tt)

  -- it ends at this page
  pub walk_ends : (Last : ReadLeaf → ℕ → Type 0) (next : ℕ) (records : List Record)
      → SaysLink version at n kind next records → Last (leaf_of n records) next
      → IsWalk at head Passed Last
  walk_ends Last next records link last =
      record {
        before = walk.before;
        leaf = leaf_of n records;
        after = next;
        are_read =
            passed_more next records link;
        passed = walk.passed;
        last = last;
      }

  -- it goes on to the next
  unfoldable pub walk_goes_on : (next : ℕ) (records : List Record)
      → SaysLink version at n kind next records
      → 1 ≤ n → next ≢ 0 → Passed (leaf_of n records) → IsUnderWay at head Passed next 4 (step + 1)
  walk_goes_on next records link some more here = record {
    before = walk.before ++ leaf_of n records ∷ [];
    has_passed = at_next walk.before (passed_more next records link);
    numbered = numbered_more records some;
    passed = AllByRecursion-append Passed walk.before (leaf_of n records ∷ []) walk.passed
        (here, tt);
    kind_is = sym (kind_more walk.before);
    count = omega (arith, walk.count, length-append walk.before (leaf_of n records ∷ []));
  }
    where
      at_next : (before : ReadChain) → BeginsAt at head (before ++ leaf_of n records ∷ []) next
          → HasPassed at head (before ++ leaf_of n records ∷ []) next
      at_next [] begins = (begins, more)
      at_next (leaf ∷ rest) begins = (begins, more)

      kind_more : (before : ReadChain) → kind_behind (before ++ leaf_of n records ∷ []) ≡ 4
      kind_more [] = refl
      kind_more (leaf ∷ rest) = refl

-- ---- a chain that is read as one

-- each of its pages says its records and the next page, and the first is of this kind
abbrev pub AreLinks : Version → (ℕ → Body) → ℕ → ReadChain → Type 0
AreLinks version at kind [] = Unit {0}
AreLinks version at kind (leaf ∷ rest) =
    SaysLink version at leaf.number kind (number_or rest 0) leaf.records
    × AreLinks version at 4 rest

-- what a walk along it knows of it
pub record IsReadAs (version : Version) (at : ℕ → Body) (end head : ℕ)
    (chain : ReadChain) : Type 0 where
  pub links : AreLinks version at 3 chain
  pub some : 0 < length chain
  pub from : head ≡ number_or chain 0
  pub few : length chain ≤ end
  pub numbered : AreNumbered chain

number_read : (chain : Chain) → number_or (chain_read chain) 0 ≡ first_of (numbers chain)
number_read [] = refl
number_read (leaf ∷ rest) = refl

numbered_read : (chain : Chain) → AllByRecursion (λ leaf. 1 ≤ leaf.number) chain
    → AreNumbered (chain_read chain)
numbered_read [] numbered = tt
numbered_read (leaf ∷ rest) numbered = (numbered.0, numbered_read rest numbered.1)

overflow_links : (version : Version) (at : ℕ → Body) (chain : Chain)
    → AreRead at (overflow_bodies chain) → AllByRecursion (λ leaf. 0 < length leaf.entries) chain
    → AllByRecursion (λ leaf. AreSound version leaf.records) (chain_read chain)
    → AreLinks version at 4 (chain_read chain)
overflow_links version at [] read some sound = tt
overflow_links version at (leaf ∷ rest) read some sound =
    let filled : 0 < length (map record_of leaf.entries) =
    omega (arith, some.0, length-map leaf.entries record_of) in (
      record {
        says = read.0 ∙ ap (λ (n : ℕ). OverflowPage n (map record_of leaf.entries))
            (sym (number_read rest));
        filled = λ _. filled;
        sound = sound.0;
      },
      overflow_links version at rest read.1 some.1 sound.1,
    )

-- a placement's chain, as it is read
pub read_as : (version : Version) (at : ℕ → Body) (end head : ℕ) (chain : Chain)
    → IsChainAt version at end head chain → IsReadAs version at end head (chain_read chain)
read_as version at end head [] is = absurd is.is_chain
read_as version at end head (leaf ∷ rest) is =
    let read = AllByRecursion-left (λ (b : NumberedBody). at b.number ≡ b.body)
    (leaf_bodies (leaf ∷ rest)) (flat_map entry_bodies (entries_in (leaf ∷ rest))) is.are_read in
    record {
      links = (
        record {
          says = read.0 ∙ ap (λ (n : ℕ). HeadPage n (map record_of leaf.entries))
              (sym (number_read rest));
          filled = λ four. absurd (omega (arith, four));
          sound = is.sound.0;
        },
        overflow_links version at rest read.1 is.is_chain.2 is.sound.1,
      );
      some = omega arith;
      from = is.from;
      few = omega (arith, is.few, length-map (leaf ∷ rest) leaf_read);
      numbered = numbered_read (leaf ∷ rest) is.numbered;
    }

-- its records are those of its entries
pub all_records_read : (chain : Chain)
    → all_records (chain_read chain) ≡ map record_of (entries_in chain)
all_records_read [] = refl
all_records_read (leaf ∷ rest) =
    ap (λ (xs : List Record). map record_of leaf.entries ++ xs) (all_records_read rest)
    ∙ sym (map-append record_of leaf.entries (entries_in rest))

linked_read : (version : Version) (at : ℕ → Body) (chain : ReadChain)
    → AreLinks version at 4 chain → AreLinked at chain 0
linked_read version at [] links = tt
linked_read version at (leaf ∷ rest) links =
    (links.0.says, links.0.filled refl, linked_read version at rest links.1)

-- all of its pages can be read
pub begins_read : (version : Version) (at : ℕ → Body) (end head : ℕ) (chain : ReadChain)
    → IsReadAs version at end head chain → BeginsAt at head chain 0
begins_read version at end head [] is = absurd (omega (arith, is.some))
begins_read version at end head (leaf ∷ rest) is = (
  sym is.from,
  ap at is.from ∙ is.links.0.says,
  linked_read version at rest is.links.1,
)

pub begins_at : (version : Version) (at : ℕ → Body) (end head : ℕ) (chain : Chain)
    → IsChainAt version at end head chain → BeginsAt at head (chain_read chain) 0
begins_at version at end head chain is =
    begins_read version at end head (chain_read chain) (read_as version at end head chain is)

pub one_body : (kind next next' : ℕ) (records records' : List Record)
    → link_body kind next records ≡ link_body kind next' records'
    → (next ≡ next') × (records ≡ records')
one_body kind next next' records records' = by_kind (kind == 3)
  where
    by_kind : (head : Bool) → cond head (HeadPage next records) (OverflowPage next records)
        ≡ cond head (HeadPage next' records') (OverflowPage next' records')
        → (next ≡ next') × (records ≡ records')
    by_kind true e = (cc, cc)
    by_kind false e = (cc, cc)

-- what a page says is one thing
pub one_next : (version : Version) (at : ℕ → Body) (n kind next next' : ℕ)
    (records records' : List Record) → SaysLink version at n kind next records
    → SaysLink version at n kind next' records' → (next ≡ next') × (records ≡ records')
one_next version at n kind next next' records records' link link' =
    one_body kind next next' records records' (sym link.says ∙ link'.says)

-- The chain has these pages first, and page n is the next.
pub record IsSplit (chain before : ReadChain) (n : ℕ) : Type 0 where
  pub later : ReadChain
  pub parts : chain ≡ before ++ later
  pub next : n ≡ number_or later 0

-- overflow pages that were read are those of the chain
linked_same : (version : Version) (at : ℕ → Body) (rest chain : ReadChain) (n : ℕ)
    → AreLinked at rest n → AreNumbered rest → AreLinks version at 4 chain
    → number_or rest n ≡ number_or chain 0 → IsSplit chain rest n
linked_same version at [] chain n linked numbered links first =
    record { later = chain; parts = refl; next = first }
linked_same version at (leaf ∷ rest) [] n linked numbered links first =
    absurd (omega (arith, first, numbered.0))
linked_same version at (leaf ∷ rest) (other ∷ chain) n linked numbered links first =
    let says : at leaf.number ≡ OverflowPage (number_or chain 0) other.records =
    ap at first ∙ links.0.says in
    let here : at leaf.number ≡ OverflowPage (number_or rest n) leaf.records = linked.0 in
    let after : number_or rest n ≡ number_or chain 0 = cc in
    let records : leaf.records ≡ other.records = cc in
    let split = linked_same version at rest chain n linked.2 numbered.1 links.1 after in
    let same : leaf ≡ other = (λ i. record { number = first i; records = records i }) in
    record { later = split.later; parts = (λ i. sym same i ∷ split.parts i); next = split.next }

-- Pages that were read from the chain's head on are the chain's.
pub begins_same : (version : Version) (at : ℕ → Body) (end head : ℕ) (before chain : ReadChain)
    (n : ℕ) → BeginsAt at head before n → AreNumbered before
    → IsReadAs version at end head chain → IsSplit chain before n
begins_same version at end head [] chain n begins numbered is = absurd begins
begins_same version at end head (leaf ∷ rest) [] n begins numbered is =
    absurd (omega (arith, is.some))
begins_same version at end head (leaf ∷ rest) (other ∷ chain) n begins numbered is =
    let says : at head ≡ HeadPage (number_or chain 0) other.records =
    ap at is.from ∙ is.links.0.says in
    let here : at head ≡ HeadPage (number_or rest n) leaf.records = begins.1 in
    let after : number_or rest n ≡ number_or chain 0 = cc in
    let records : leaf.records ≡ other.records = cc in
    let split = linked_same version at rest chain n begins.2 numbered.1 is.links.1 after in
    let number : leaf.number ≡ other.number = begins.0 ∙ is.from in
    let same : leaf ≡ other = (λ i. record { number = number i; records = records i }) in
    record { later = split.later; parts = (λ i. sym same i ∷ split.parts i); next = split.next }

-- Where a walk stands in a chain that is read as one there is a page, which says so.
pub record IsHere (version : Version) (at : ℕ → Body) (chain before : ReadChain)
    (n kind : ℕ) : Type 0 where
  pub leaf : ReadLeaf
  pub later : ReadChain
  pub parts : chain ≡ before ++ leaf ∷ later
  pub number : n ≡ leaf.number
  pub link : SaysLink version at n kind (number_or later 0) leaf.records

abbrev pub kind_from : ℕ → ReadChain → ℕ
kind_from kind [] = kind
kind_from kind (leaf ∷ rest) = 4

pub links_behind : (version : Version) (at : ℕ → Body) (kind : ℕ) (before later : ReadChain)
    → AreLinks version at kind (before ++ later) → AreLinks version at (kind_from kind before) later
links_behind version at kind [] later links = links
links_behind version at kind (first ∷ before) later links =
    subst (λ (k : ℕ). AreLinks version at k later) (four before)
    (links_behind version at 4 before later links.1)
  where
    four : (before : ReadChain) → kind_from 4 before ≡ 4
    four [] = refl
    four (leaf ∷ before) = refl

pub kind_same : (before : ReadChain) → kind_from 3 before ≡ kind_behind before
kind_same [] = refl
kind_same (leaf ∷ before) = refl

module _ (version : Version) (at : ℕ → Body) (end head : ℕ) (Passed : ReadLeaf → Type 0)
    (n kind step : ℕ) (chain : ReadChain) (is : IsReadAs version at end head chain)
    (walk : IsUnderWay at head Passed n kind step) where
  -- the pages from here on
  left_of : IsSplit chain walk.before n
  left_of = by_before walk.before walk.has_passed walk.numbered
    where
      by_before : (before : ReadChain) → HasPassed at head before n → AreNumbered before
          → IsSplit chain before n
      by_before [] passed numbered = record { later = chain; parts = refl; next = passed ∙ is.from }
      by_before (leaf ∷ rest) passed numbered =
          begins_same version at end head (leaf ∷ rest) chain n passed.0 numbered is

  pub walk_is_here : IsHere version at chain walk.before n kind
  walk_is_here = by_later left_of.later left_of.parts left_of.next
    where
      not_over : (before : ReadChain) → HasPassed at head before n → chain ≡ before ++ [] → n ≡ 0
          → ⊥
      not_over [] passed parts none = absurd (omega (arith, is.some, ap length parts))
      not_over (leaf ∷ rest) passed parts none = passed.1 none

      by_later : (later : ReadChain) → chain ≡ walk.before ++ later → n ≡ number_or later 0
          → IsHere version at chain walk.before n kind
      by_later [] parts first = absurd (not_over walk.before walk.has_passed parts first)
      by_later (leaf ∷ later) parts first =
          let links = subst (AreLinks version at 3) parts is.links in
          let here = (links_behind version at 3 walk.before (leaf ∷ later) links).0 in
          let kind_here : kind_from 3 walk.before ≡ kind =
          kind_same walk.before ∙ sym walk.kind_is in
          record {
            leaf = leaf;
            later = later;
            parts = parts;
            number = first;
            link = subst
                (λ (m : ℕ). SaysLink version at m kind (number_or later 0) leaf.records) (sym first)
                (subst
                (λ (k : ℕ). SaysLink version at leaf.number k (number_or later 0) leaf.records)
                kind_here here);
          }

  -- page 0 is none of them
  pub some_page : 1 ≤ n
  some_page =
      let here = walk_is_here in
      let numbered = AllByRecursion-right (λ (leaf : ReadLeaf). 1 ≤ leaf.number) walk.before
      (here.leaf ∷ here.later) (subst AreNumbered here.parts is.numbered) in
      omega (arith, here.number, numbered.0)

  -- as many steps as the file has pages are enough
  pub not_too_long : end ≤ step → ⊥
  not_too_long over =
      let here = walk_is_here in
      omega (
        arith,
        over,
        is.few,
        walk.count,
        ap length here.parts,
        length-append walk.before (here.leaf ∷ here.later),
      )
