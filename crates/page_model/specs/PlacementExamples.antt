-- Hashes and placements that are worked out by hand.
use Rattle.std.specs.Prelude.{◌≡◌, ℕ, ◌-◌, List, [], ◌∷◌, map, fold, replicate, reverse, codes}
use Rattle.std.specs.List.{range_with_len}
use Rattle.dbm_model.specs.Bounds.{in_v1, in_v2}
use Rattle.dbm_model.specs.Pairs.{Pair}
use Rattle.page_model.specs.Chain.{Entry}
use Rattle.page_model.specs.Address.{hash_of}
use Rattle.page_model.specs.Placement.{Placement, in_use, fresh_placement, store, delete}

-- the published vectors of FNV-1a, and no bytes
pub record HashExamples : Type 0 where
  pub none : hash_of [] ≡ 2166136261
  pub letter : hash_of (codes "a") ≡ 0xE40C292C
  pub word : hash_of (codes "foobar") ≡ 0xBF9CF968

-- keys of one byte: 61 has the content 01, 62 the content 02 ..
abbrev pub counted : List ℕ → List Pair
counted keys = map (λ key. (key ∷ [], (key - 0x60) ∷ [])) keys

-- pairs that lie in their slots
abbrev pub near : List Pair → List Entry
near pairs = map (λ pair. record { pair = pair; pages = [] }) pairs

-- the ninth pair splits bucket 0, and odd bytes stay
abbrev pub NinePairs : Type 0
NinePairs = fold store (fresh_placement (in_v1 100)) (counted (range_with_len 0x61 9)) ≡ record {
  bounds = in_v1 100;
  shape = record { level = 1; split = 0 };
  segments = 2 ∷ [];
  chains = (record { number = 3; entries = near (counted (0x61 ∷ 0x63 ∷ 0x65 ∷ 0x67 ∷ 0x69 ∷ [])) } ∷ [])
      ∷ (record { number = 4; entries = near (counted (0x62 ∷ 0x64 ∷ 0x66 ∷ 0x68 ∷ [])) } ∷ []) ∷ [];
  space = record { free = []; end = 5 };
}

-- the seventeenth pair splits bucket 0 again
abbrev pub SeventeenPairs : Type 0
SeventeenPairs = fold store (fresh_placement (in_v1 100)) (counted (range_with_len 0x61 17)) ≡ record {
  bounds = in_v1 100;
  shape = record { level = 1; split = 1 };
  segments = 2 ∷ [];
  chains = (record { number = 3; entries = near (counted (0x61 ∷ 0x65 ∷ 0x69 ∷ 0x6d ∷ 0x71 ∷ [])) } ∷ [])
      ∷ (record {
        number = 4;
        entries = near (counted (0x62 ∷ 0x64 ∷ 0x66 ∷ 0x68 ∷ 0x6a ∷ 0x6c ∷ 0x6e ∷ 0x70 ∷ []));
      } ∷ [])
      ∷ (record { number = 5; entries = near (counted (0x63 ∷ 0x67 ∷ 0x6b ∷ 0x6f ∷ [])) } ∷ []) ∷ [];
  space = record { free = []; end = 6 };
}

-- a key of one byte and a content of so many
abbrev pub long : ℕ → ℕ → Pair
long size key = (key ∷ [], replicate size 0)

abbrev pub two_long : Placement
two_long = store (store (fresh_placement (in_v1 100)) (long 1499 0x61)) (long 1499 0x62)

-- the second long pair goes to overflow page 4, which is free after its deletion and taken again
pub record LongPairs : Type 0 where
  pub stored : two_long.space ≡ record { free = []; end = 5 }
  pub deleted : (delete two_long (0x62 ∷ [])).space ≡ record { free = 4 ∷ []; end = 5 }
  pub again : (store (delete two_long (0x62 ∷ [])) (long 1499 0x62)).space
      ≡ record { free = []; end = 5 }

-- two of these fill a page
abbrev thick : List ℕ → List Pair
thick keys = map (long 1000) keys

-- a split gives overflow pages 4, 5, 6 and 7 in this order, and takes 7 for the new head, then 6, 5
-- and 4 as the pairs come
abbrev pub ThickPairs : Type 0
ThickPairs = fold store (fresh_placement (in_v1 100)) (thick (range_with_len 0x61 9)) ≡ record {
  bounds = in_v1 100;
  shape = record { level = 1; split = 0 };
  segments = 2 ∷ [];
  chains = (record { number = 3; entries = near (thick (0x61 ∷ 0x63 ∷ [])) }
      ∷ record { number = 6; entries = near (thick (0x65 ∷ 0x67 ∷ [])) }
      ∷ record { number = 4; entries = near (thick (0x69 ∷ [])) } ∷ [])
      ∷ (record { number = 7; entries = near (thick (0x62 ∷ 0x64 ∷ [])) }
      ∷ record { number = 5; entries = near (thick (0x66 ∷ 0x68 ∷ [])) } ∷ []) ∷ [];
  space = record { free = []; end = 8 };
}

-- at the limit, with a page for each pair
abbrev full : Placement
full = store (store (fresh_placement (in_v1 2)) (long 2025 0x61)) (long 2025 0x62)

abbrev replaced : Placement
replaced = store full (long 2025 0x62)

abbrev renewed : Placement
renewed = store (delete replaced (0x61 ∷ [])) (long 2025 0x61)

-- the page of a pair is taken again where the pair is replaced, and a head stays where it is
-- emptied
pub record FullPages : Type 0 where
  pub stored : full.space ≡ record { free = []; end = 5 }
  pub replaced_keeps : replaced.space ≡ record { free = []; end = 5 }
  pub renewed_keeps : renewed.space ≡ record { free = []; end = 5 }
  pub deleted_frees : (delete renewed (0x62 ∷ [])).space ≡ record { free = 4 ∷ []; end = 5 }

-- ---- contents in pages of their own

-- a key of one byte, and a content of so many
abbrev pub far : ℕ → Pair
far size = (0x6b ∷ [], replicate size 0x77)

abbrev pub first_far : Placement
first_far = store (fresh_placement (in_v2 1)) (far 2026)

-- its content is replaced by one of 65,535 bytes
abbrev longest_far : Placement
longest_far = store first_far (far 65535)

-- a content of 2,025 bytes lies in its slot, and one of 2,026 in page 4; one of 65,535 takes that
-- page again and 32 more, and all are free once it is deleted, the last one first
pub record FarPairs : Type 0 where
  pub near_still : (store (fresh_placement (in_v2 1)) (far 2025)).space
      ≡ record { free = []; end = 4 }
  pub stored : first_far.space ≡ record { free = []; end = 5 }
  pub paged : first_far.chains
      ≡ (record { number = 3; entries = record { pair = far 2026; pages = 4 ∷ [] } ∷ [] } ∷ []) ∷ []
  pub longest : longest_far.space ≡ record { free = []; end = 37 }
  pub in_pages : in_use longest_far ≡ 1 ∷ 2 ∷ 3 ∷ range_with_len 4 33
  pub deleted : (delete longest_far (0x6b ∷ [])).space
      ≡ record { free = reverse (range_with_len 4 33); end = 37 }
