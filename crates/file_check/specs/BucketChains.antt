-- The chain of a bucket, with all that a good file asks of it.
use Rattle.std.specs.Prelude.{◌≡◌, ◌≢◌, ◌-◌, ◌^◌, ◌≤◌, ◌<◌, ℕ, min, Bool, List, [], ◌∷◌, ◌++◌, length, map, flat_map}
use Rattle.std.specs.List.{AllByRecursion}
use Rattle.dbm_model.specs.Bounds.{Version}
use Rattle.dbm_model.specs.Pairs.{Key}
use Rattle.page_model.specs.Address.{Shape}
use Rattle.page_model.specs.PairLists.{times, HasBytes}
use Rattle.page_model.specs.Pages.{Body, Record}
use Rattle.page_model.specs.Chain.{Chain, Entry, pages_long, numbers, pages_of, pairs_in, pages_in, entries_in, record_of, IsEntry, IsChain}
use Rattle.page_model.specs.Placement.{key_bucket}
use Rattle.page_model.specs.PageBodies.{first_of, content_bodies, entry_bodies, chain_bodies, AreRead}
use Rattle.file_check.specs.Marks.{AreMarked}
use Rattle.bucket_chain.specs.Chains.{ReadChain, IsChainAt, BeginsAt, chain_read}

-- each key has this bucket
abbrev pub AreInBucket : Shape → ℕ → List Record → Type 0
AreInBucket shape bucket records = AllByRecursion (λ r. key_bucket shape r.key ≡ bucket) records

-- the pages say this chain from the head page on, and its contents, with keys of this bucket alone
-- and none twice, and each pair is one that the version allows
pub record IsBucketChain (version : Version) (at : ℕ → Body) (shape : Shape) (bucket head : ℕ)
    (chain : Chain) : Type 0 where
  pub are_read : AreRead at (chain_bodies chain)
  pub is_chain : IsChain chain
  pub from : head ≡ first_of (numbers chain)
  pub in_bucket : AllByRecursion (λ pair. key_bucket shape pair.0 ≡ bucket) (pairs_in chain)
  pub no_key_twice : (key : Key) → times key (pairs_in chain) ≤ 1
  pub bytes : AllByRecursion HasBytes (pairs_in chain)
  pub entered : AllByRecursion (IsEntry version) (entries_in chain)

-- such a chain was read, has so many pairs, 4,294,967,295 where there are more, and its pages and
-- those of its contents are marked beside those seen before
pub record IsChecked (version : Version) (at : ℕ → Body) (end : ℕ) (shape : Shape)
    (bucket head pairs : ℕ) (marks : List Bool) (seen : List ℕ) : Type 0 where
  pub chain : Chain
  pub is : IsBucketChain version at shape bucket head chain
  pub numbered : AllByRecursion (λ leaf. 1 ≤ leaf.number) chain
  pub many : pairs ≡ min (length (pairs_in chain)) (2 ^ 32 - 1)
  pub marked : AreMarked marks end (seen ++ pages_in chain)

-- these pages say this content from page `first` on
pub record AreContentPages (at : ℕ → Body) (first long : ℕ) (pages content : List ℕ)
    : Type 0 where
  pub begins : first ≡ first_of pages
  pub paged : length pages ≡ pages_long long
  pub long_is : length content ≡ long
  pub are_read : AreRead at (content_bodies pages content)

-- a content was read, it consists of bytes, and its pages are marked beside those seen before
pub record IsContentChecked (at : ℕ → Body) (end first long : ℕ) (marks : List Bool)
    (seen : List ℕ) : Type 0 where
  pub pages : List ℕ
  pub content : List ℕ
  pub are : AreContentPages at first long pages content
  pub bytes : AllByRecursion (λ byte. byte < 256) content
  pub marked : AreMarked marks end (seen ++ pages)

-- these are entries of the records, with their contents as they are read
pub record AreEntriesOf (version : Version) (at : ℕ → Body) (records : List Record)
    (entries : List Entry) : Type 0 where
  pub are : map record_of entries ≡ records
  pub entered : AllByRecursion (IsEntry version) entries
  pub are_read : AreRead at (flat_map entry_bodies entries)

-- the contents of a page's records were read, and their pages are marked beside those seen before
pub record AreContentsChecked (version : Version) (at : ℕ → Body) (end : ℕ)
    (records : List Record) (marks : List Bool) (seen : List ℕ) : Type 0 where
  pub entries : List Entry
  pub are : AreEntriesOf version at records entries
  pub bytes : AllByRecursion (λ e. HasBytes e.pair) entries
  pub marked : AreMarked marks end (seen ++ pages_of entries)

-- no key stands in both lists
abbrev pub AreApart : List Record → List Record → Type 0
AreApart records others = AllByRecursion (λ r. AllByRecursion (λ q. r.key ≢ q.key) others) records

-- pages that were passed on the way from page `head` to page n, which is not among them
abbrev pub IsWayTo : (ℕ → Body) → ℕ → ℕ → ReadChain → Type 0
IsWayTo at head n [] = n ≡ head
IsWayTo at head n (leaf ∷ rest) = BeginsAt at head (leaf ∷ rest) n
    × AllByRecursion (λ leaf. leaf.number ≢ n) (leaf ∷ rest)

-- no page before page n has one of these keys
pub record HasNewKeys (at : ℕ → Body) (head n : ℕ) (records : List Record) : Type 0 where
  pub before : ReadChain
  pub way : IsWayTo at head n before
  pub apart : AllByRecursion (λ leaf. AreApart records leaf.records) before

-- page n is one of the chain, these are its records, and the chain has no key twice
pub record AreNewInChain (version : Version) (at : ℕ → Body) (end head n : ℕ)
    (records : List Record) (chain : Chain) : Type 0 where
  pub before : ReadChain
  pub behind : ReadChain
  pub is : IsChainAt version at end head chain
  pub parts : chain_read chain ≡ before ++ record { number = n; records = records } ∷ behind
  pub no_key_twice : (key : Key) → times key (pairs_in chain) ≤ 1
