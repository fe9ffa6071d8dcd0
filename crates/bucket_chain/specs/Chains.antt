-- A chain as its pages say it.
use Rattle.std.specs.Prelude.{◌≡◌, ℕ, ◌<◌, ◌≤◌, List, [], ◌∷◌, length, map, flat_map}
use Rattle.std.specs.List.{AllByRecursion}
use Rattle.dbm_model.specs.Bounds.{Version}
use Rattle.dbm_model.specs.Pairs.{Pair}
use Rattle.page_model.specs.Pages.{Body, HeadPage, OverflowPage, Record}
use Rattle.page_model.specs.Chain.{Leaf, Chain, entries_in, record_of, numbers, IsEntry, IsChain}
use Rattle.page_model.specs.PageBodies.{first_of, chain_bodies, AreRead}
use Rattle.bucket_chain.specs.Links.{AreSound}
use Rattle.page_io.specs.declared.store.PageStore.{Ghosts}
use Rattle.page_io.specs.Views.{body_at}

-- a page of a chain as it is read, with its records
pub record ReadLeaf : Type 0 where
  pub number : ℕ
  pub records : List Record

abbrev pub ReadChain : Type 0
ReadChain = List ReadLeaf

-- a page of a placement, and its chain, as they are read
abbrev pub leaf_read : Leaf → ReadLeaf
leaf_read leaf = record { number = leaf.number; records = map record_of leaf.entries }

abbrev pub chain_read : Chain → ReadChain
chain_read chain = map leaf_read chain

-- a record's key and the bytes behind it
abbrev pub record_pair : Record → Pair
record_pair r = (r.key, r.bytes)

abbrev pub pairs_read : ReadLeaf → List Pair
pairs_read leaf = map record_pair leaf.records

abbrev pub all_records : ReadChain → List Record
all_records chain = flat_map (λ leaf. leaf.records) chain

-- the pages say this chain from a head page on, of at most `end` pages, and its contents
pub record IsChainAt (version : Version) (at : ℕ → Body) (end head : ℕ)
    (chain : Chain) : Type 0 where
  pub are_read : AreRead at (chain_bodies chain)
  pub is_chain : IsChain chain
  pub from : head ≡ first_of (numbers chain)
  pub few : length chain ≤ end
  pub numbered : AllByRecursion (λ leaf. 1 ≤ leaf.number) chain
  pub entered : AllByRecursion (IsEntry version) (entries_in chain)
  -- a page with a key twice can be spelled, and is no bucket page
  pub sound : AllByRecursion (λ leaf. AreSound version leaf.records) (chain_read chain)

-- the first number, or where there are no pages that of the page after them
abbrev pub number_or : ReadChain → ℕ → ℕ
number_or [] after = after
number_or (leaf ∷ rest) after = leaf.number

-- overflow pages in a row, the last of which names page `after`, 0 for none
abbrev pub AreLinked : (ℕ → Body) → ReadChain → ℕ → Type 0
AreLinked at [] after = Unit {0}
AreLinked at (leaf ∷ rest) after =
    (at leaf.number ≡ OverflowPage (number_or rest after) leaf.records) × (0 < length leaf.records)
    × AreLinked at rest after

-- the first pages of a chain from page `head` on, the last of which names page `after`
abbrev pub BeginsAt : (ℕ → Body) → ℕ → ReadChain → ℕ → Type 0
BeginsAt at head [] after = ⊥
BeginsAt at head (leaf ∷ rest) after =
    (leaf.number ≡ head) × (at head ≡ HeadPage (number_or rest after) leaf.records)
    × AreLinked at rest after

-- the kind of the page behind these: that of a head page behind none
abbrev pub kind_behind : ReadChain → ℕ
kind_behind [] = 3
kind_behind (leaf ∷ rest) = 4

-- what is said of an honest store whose pages say a chain from this head page on
abbrev pub ForEachChain : {S : Type 0} → Version → Ghosts S → S → ℕ → (Chain → Type 0) → Type 0
ForEachChain version s store head Says =
    s.honest store → (chain : Chain)
    → IsChainAt version (body_at s store) (s.state store).end head chain → Says chain
