-- Laws of placements: addresses, and what each operation does to the map and to the pages in use.
use Rattle.std.specs.Prelude.{◌≡◌, ◌↔◌, ℕ, ◌+◌, ◌-◌, ◌^◌, ◌<◌, ◌≤◌, ◌==◌, ◌&&◌, List, ◌++◌, None, Some, length, IsPermutation, if◌then◌else◌}
use Rattle.std.specs.Int.{bit_at}
use Rattle.std.specs.List.{AllByRecursion, range_with_len}
use Rattle.std.specs.FinMap.{insert, get, len, empty, find}
use Rattle.std.specs.FinMap as fin
use Rattle.dbm_model.specs.Bounds.{Bounds}
use Rattle.dbm_model.specs.Pairs.{Key, Pair, key_cmp, IsAllowed}
use Rattle.dbm_model.specs.Sizes.{most_taken}
use Rattle.page_model.specs.PairLists.{HasBytes}
use Rattle.page_model.specs.Address.{Shape, address, grown, buckets}
use Rattle.page_model.specs.Chain.{pairs_in}
use Rattle.page_model.specs.Space.{Space, IsExact}
use Rattle.page_model.specs.Placement.{Placement, pairs_of, contents, key_bucket, chain_at, delete, replace, split, store, fresh_placement, raised, IsSound, IsGood, MayStore}

-- growing moves exactly the hashes of bucket `split` whose bit `level` is set, to bucket split + 2
-- ^ level
abbrev pub GrowingMovesOneBucket : Type 0
GrowingMovesOneBucket = (s : Shape) (hash : ℕ) → s.split < 2 ^ s.level →
    address (grown s) hash ≡ (if address s hash == s.split && bit_at hash s.level == 1
    then s.split + 2 ^ s.level else address s hash)

-- a hash has one of the buckets
abbrev pub AddressesAreBelow : Type 0
AddressesAreBelow = (s : Shape) (hash : ℕ) → s.split < 2 ^ s.level → address s hash < buckets s

-- a sound placement in which a pair replaces its key's is sound, and its map has the pair
abbrev pub ReplaceInserts : Type 0
ReplaceInserts = (p : Placement) (pair : Pair) → IsSound p → IsAllowed p.bounds.version pair
    → IsSound (replace p pair) × (contents (replace p pair) ≡ insert (contents p) pair.0 pair.1)

-- a sound placement without a key is sound, and its map is without the key
abbrev pub DeleteRemoves : Type 0
DeleteRemoves = (p : Placement) (key : Key) → IsSound p
    → IsSound (delete p key) × (contents (delete p key) ≡ fin.remove (contents p) key)

-- a key that is not there leaves the placement as it is
abbrev pub AbsentDeleteKeeps : Type 0
AbsentDeleteKeeps = (p : Placement) (key : Key) → IsSound p → get (contents p) key ≡ None
    → delete p key ≡ p

-- a split changes no pair of the map
abbrev pub SplitKeeps : Type 0
SplitKeeps = (p : Placement) → IsSound p
    → IsSound (split p) × (contents (split p) ≡ contents p)
    × (length (pairs_of (split p)) ≡ length (pairs_of p))
    × (length (split p).chains ≡ length p.chains + 1)

-- what a key has in the map is what its chain has at the key
abbrev pub LooksInOneChain : Type 0
LooksInOneChain = (p : Placement) (key : Key) → IsSound p
    → get (contents p) key ≡ find key_cmp key (pairs_in (chain_at p (key_bucket p.shape key)))

-- the map has as many keys as there are pairs
abbrev pub CountsKeys : Type 0
CountsKeys = (p : Placement) → IsSound p → len (contents p) ≡ length (pairs_of p)

-- each pair is allowed
abbrev pub PairsAreAllowed : Type 0
PairsAreAllowed = (p : Placement) → IsSound p → AllByRecursion (IsAllowed p.bounds.version) (pairs_of p)

-- a store of what may be stored
abbrev pub StoreStaysGood : Type 0
StoreStaysGood = (p : Placement) (pair : Pair) → IsGood p → MayStore p pair
    → IsGood (store p pair) × (contents (store p pair) ≡ insert (contents p) pair.0 pair.1)
    × ((store p pair).bounds ≡ p.bounds)

-- a delete of any key
abbrev pub DeleteStaysGood : Type 0
DeleteStaysGood = (p : Placement) (key : Key) → IsGood p
    → IsGood (delete p key) × (contents (delete p key) ≡ fin.remove (contents p) key)
    × ((delete p key).bounds ≡ p.bounds)

-- a placement goes to version 2 as it is, where there is room
abbrev pub RaisedIsGood : Type 0
RaisedIsGood = (p : Placement) → IsGood p
    → IsGood (raised p) × (contents (raised p) ≡ contents p)

-- a new database of an allowed limit
abbrev pub FreshIsGood : Type 0
FreshIsGood = (bounds : Bounds) → 1 ≤ bounds.limit → bounds.limit ≤ 1000000
    → IsGood (fresh_placement bounds) × (contents (fresh_placement bounds) ≡ empty)

-- keys and contents of a good placement are bytes
abbrev pub MapHoldsBytes : Type 0
MapHoldsBytes = (p : Placement) (key : Key) (content : List ℕ) → IsGood p
    → get (contents p) key ≡ Some content → HasBytes (key, content)

-- and each pair of its map is one that its version allows
abbrev pub MapIsAllowed : Type 0
MapIsAllowed = (p : Placement) (key : Key) (content : List ℕ) → IsGood p
    → get (contents p) key ≡ Some content → IsAllowed p.bounds.version (key, content)

-- the level of a good placement
abbrev pub LevelIsLow : Type 0
LevelIsLow = (p : Placement) → IsGood p → p.shape.level ≤ 16

-- a store takes few pages
abbrev pub StoreTakesFew : Type 0
StoreTakesFew = (p : Placement) (pair : Pair) → IsSound p → IsAllowed p.bounds.version pair
    → (store p pair).space.end ≤ p.space.end + length (pairs_of p) + most_taken p.bounds.version

-- in exactly one place: the pages in use and the free ones are the numbers from 1 to end - 1, in
-- some order
abbrev pub OnceIsPermutation : Type 0
OnceIsPermutation = (in_use : List ℕ) (s : Space) → 1 ≤ s.end
    → IsExact in_use s ↔ IsPermutation (range_with_len 1 (s.end - 1)) (in_use ++ s.free)
