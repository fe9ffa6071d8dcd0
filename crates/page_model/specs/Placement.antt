-- The placement: which page is where and what it holds, with no bytes.
use Rattle.std.specs.Prelude.{◌≡◌, ℕ, ◌*◌, ◌%◌, ◌^◌, ◌≤◌, ◌<◌, ◌==◌, Bool, List, [], ◌∷◌, ◌++◌, None, length, drop, flat_map, fold, nat_lt, slice_set, slice_index_or, if◌then◌else◌}
use Rattle.std.specs.List.{AllByRecursion}
use Rattle.std.specs.FinMap.{get, len}
use Rattle.page_model.specs.Address.{Shape, buckets, address, grown, hash_of}
use Rattle.dbm_model.specs.Bounds.{Bounds, upgraded}
use Rattle.dbm_model.specs.Pairs.{Key, Pair, Contents, contents_of, IsAllowed}
use Rattle.page_model.specs.PairLists.{times, HasBytes}
use Rattle.dbm_model.specs.Sizes.{buckets_for, segments_for, home}
use Rattle.page_model.specs.Chain.{Entry, Chain, Leaf, content_pages, numbers, entries_in, pairs_in, pages_in, has_room, add, remove, freed, IsEntry, IsChain}
use Rattle.page_model.specs.Space.{Space, next_page, next_pages, after_take, after_takes, give, IsExact}

pub record Placement : Type 0 where
  pub bounds : Bounds
  pub shape : Shape
  -- the segment pages, in order
  pub segments : List ℕ
  -- the chain of each bucket, in order
  pub chains : List Chain
  pub space : Space

-- all entries of all pages, and their pairs
abbrev pub entries_of : Placement → List Entry
entries_of p = flat_map entries_in p.chains

abbrev pub pairs_of : Placement → List Pair
pairs_of p = flat_map pairs_in p.chains

-- the map that the placement stands for
abbrev pub contents : Placement → Contents
contents p = contents_of (pairs_of p)

-- meta, segments, and the pages of the chains and of their contents
abbrev pub in_use : Placement → List ℕ
in_use p = 1 ∷ p.segments ++ flat_map pages_in p.chains

-- the bucket of a key
abbrev pub key_bucket : Shape → Key → ℕ
key_bucket shape key = address shape (hash_of key)

abbrev pub chain_at : Placement → ℕ → Chain
chain_at p bucket = slice_index_or p.chains bucket []

-- a record goes to its bucket's chain, and its content pages stay
abbrev pub put_entry : Placement → Entry → Placement
put_entry p e =
    let bucket = key_bucket p.shape e.pair.0 in
    let chain = chain_at p bucket in
    record p {
      chains = slice_set p.chains bucket (add e (next_page p.space) chain);
      space = if has_room e chain then p.space else after_take p.space;
    }

-- the pages of a pair's content are taken
abbrev pub entry_for : Placement → Pair → Entry
entry_for p pair = record { pair = pair; pages = next_pages (content_pages pair) p.space }

abbrev pub with_content : Placement → Pair → Placement
with_content p pair = record p { space = after_takes (content_pages pair) p.space }

-- a pair's content goes to pages that are taken first, in order, and then its record to its chain
abbrev pub put : Placement → Pair → Placement
put p pair = put_entry (with_content p pair) (entry_for p pair)

-- a key leaves its bucket's chain, and the pages of its content and what becomes empty are free
abbrev pub delete : Placement → Key → Placement
delete p key =
    let bucket = key_bucket p.shape key in
    let chain = chain_at p bucket in
    record p {
      chains = slice_set p.chains bucket (remove key chain);
      space = give (freed key chain) p.space;
    }

-- the pair with its key takes the place of the one that was there
abbrev pub replace : Placement → Pair → Placement
replace p pair = put (delete p pair.0) pair

abbrev pub bare : ℕ → Leaf
bare number = record { number = number; entries = [] }

-- the head alone, with no pair
abbrev pub bared : Chain → Chain
bared [] = []
bared (head ∷ overflow) = bare head.number ∷ []

-- the next bucket is the first of a segment
abbrev pub begins_segment : Placement → Bool
begins_segment p = length p.chains % 508 == 0

-- bucket `split` is emptied and its overflow pages are free; a page is taken for the head of a new
-- bucket, and then one for its segment where that is new
abbrev pub extended : Placement → Placement
extended p =
    let chain = chain_at p p.shape.split in
    let given = give (drop 1 (numbers chain)) p.space in
    let headed = after_take given in
    record {
      bounds = p.bounds;
      shape = grown p.shape;
      segments = p.segments ++ (if begins_segment p then next_page headed ∷ [] else []);
      chains = slice_set p.chains p.shape.split (bared chain) ++ (bare (next_page given) ∷ []) ∷ [];
      space = if begins_segment p then after_take headed else headed;
    }

-- the records of bucket `split` are put again, in one bucket more
abbrev pub split : Placement → Placement
split p = fold put_entry (extended p) (entries_in (chain_at p p.shape.split))

-- a pair takes the place of its key's, and where there are then too many pairs, one bucket is split
abbrev pub store : Placement → Pair → Placement
store p pair = if nat_lt (8 * length p.chains) (length (pairs_of (replace p pair))) then split (replace p pair) else replace p pair

-- each pair is in the chain of its bucket, and each chain is one
abbrev pub IsInPlace : Shape → List Chain → Type 0
IsInPlace shape chains = (bucket : ℕ) → bucket < length chains
    → IsChain (slice_index_or chains bucket [])
    × AllByRecursion (λ pair. key_bucket shape pair.0 ≡ bucket)
    (pairs_in (slice_index_or chains bucket []))

-- all but the bounds on numbers of pairs, of buckets and of pages; and these pages are held besides
pub record IsSoundBeside (held : List ℕ) (p : Placement) : Type 0 where
  pub split_in : p.shape.split < 2 ^ p.shape.level
  pub all_buckets : length p.chains ≡ buckets p.shape
  pub all_segments : length p.segments ≡ segments_for (length p.chains)
  pub pages : IsExact (held ++ in_use p) p.space
  pub in_place : IsInPlace p.shape p.chains
  pub no_key_twice : (key : Key) → times key (pairs_of p) ≤ 1
  pub entered : AllByRecursion (IsEntry p.bounds.version) (entries_of p)

abbrev pub IsSound : Placement → Type 0
IsSound p = IsSoundBeside [] p

-- what a file may hold
pub record IsGood (p : Placement) : Type 0 where
  pub sound : IsSound p
  pub limited : (1 ≤ p.bounds.limit) × (p.bounds.limit ≤ 1000000)
  pub few_buckets : length p.chains ≤ buckets_for p.bounds.limit
  pub few_pairs : length (pairs_of p) ≤ p.bounds.limit
  pub light : length (pairs_of p) ≤ 8 * length p.chains
  pub bounded : p.space.end ≤ home p.bounds
  pub bytes : AllByRecursion HasBytes (pairs_of p)

-- what may be stored: an allowed pair, whose key is there or new below the limit
pub record MayStore (p : Placement) (pair : Pair) : Type 0 where
  pub allowed : IsAllowed p.bounds.version pair
  pub bytes : HasBytes pair
  pub room : get (contents p) pair.0 ≡ None → len (contents p) < p.bounds.limit

-- an empty placement of those bounds: one bucket, whose head is page 3, in the segment of page 2
abbrev pub fresh_placement : Bounds → Placement
fresh_placement bounds = record {
  bounds = bounds;
  shape = record { level = 0; split = 0 };
  segments = 2 ∷ [];
  chains = (bare 3 ∷ []) ∷ [];
  space = record { free = []; end = 4 };
}

-- in version 2, and no page is touched but meta
abbrev pub raised : Placement → Placement
raised p = record p { bounds = upgraded p.bounds }
