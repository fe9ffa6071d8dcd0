-- The pages of files that are worked out by hand, byte by byte, in ascending order of their
-- numbers.
use Rattle.std.specs.Prelude.{◌≡◌, ℕ, ◌+◌, ◌-◌, List, [], ◌∷◌, ◌++◌, length, map, flat_map, fold, replicate}
use Rattle.std.specs.List.{range_with_len}
use Rattle.dbm_model.specs.Bounds.{in_v1}
use Rattle.page_model.specs.Numbers.{numbers_bytes}
use Rattle.page_model.specs.Placement.{Placement, fresh_placement, store, delete}
use Rattle.page_model.specs.PlacementExamples.{counted, two_long, first_far}
use Rattle.page_model.specs.PageBodies.{page_bodies}
use Rattle.page_model.specs.Spelling.{spell}

-- a page of 2,048 bytes: its first ones, zeros, and its last ones
abbrev page : List ℕ → List ℕ → List ℕ
page front back = front ++ replicate (2048 - (length front + length back)) 0 ++ back

-- the slot of a key and a content of one byte each, whose record is at 0x700 and so many
abbrev slot : ℕ → List ℕ
slot low = 0x07 ∷ low ∷ 0 ∷ 1 ∷ 0 ∷ 1 ∷ []

abbrev pages_of : Placement → List (List ℕ)
pages_of p = map spell (page_bodies p)

-- a new file of limit 100
abbrev pub NewPages : Type 0
NewPages = pages_of (fresh_placement (in_v1 100)) ≡
    page (numbers_bytes (1 ∷ 0x01000000 ∷ 0 ∷ 0 ∷ 1 ∷ 100 ∷ 0 ∷ 0 ∷ 0 ∷ 0 ∷ 0 ∷ 1 ∷ 0 ∷ 0 ∷ 0
    ∷ 0 ∷ 2 ∷ [])) []
    ∷ page (numbers_bytes (2 ∷ 0x02000000 ∷ 0 ∷ 0 ∷ 3 ∷ [])) []
    ∷ page (numbers_bytes (3 ∷ 0x03000000 ∷ 0 ∷ 0x08000000 ∷ [])) []
    ∷ []

-- the file of nine pairs, of which the ninth split bucket 0
abbrev pub NinePairPages : Type 0
NinePairPages = pages_of (fold store (fresh_placement (in_v1 100)) (counted (range_with_len 0x61 9))) ≡
    page (numbers_bytes (1 ∷ 0x01000000 ∷ 0 ∷ 0 ∷ 1 ∷ 100 ∷ 9 ∷ 1 ∷ 0 ∷ 0 ∷ 0 ∷ 1 ∷ 0 ∷ 0 ∷ 0
    ∷ 0 ∷ 2 ∷ [])) []
    ∷ page (numbers_bytes (2 ∷ 0x02000000 ∷ 0 ∷ 0 ∷ 3 ∷ 4 ∷ [])) []
    ∷ page (numbers_bytes (3 ∷ 0x03000005 ∷ 0 ∷ 0x07f60000 ∷ [])
    ++ flat_map slot (0xfe ∷ 0xfc ∷ 0xfa ∷ 0xf8 ∷ 0xf6 ∷ []))
    (0x69 ∷ 0x09 ∷ 0x67 ∷ 0x07 ∷ 0x65 ∷ 0x05 ∷ 0x63 ∷ 0x03 ∷ 0x61 ∷ 0x01 ∷ [])
    ∷ page (numbers_bytes (4 ∷ 0x03000004 ∷ 0 ∷ 0x07f80000 ∷ [])
    ++ flat_map slot (0xfe ∷ 0xfc ∷ 0xfa ∷ 0xf8 ∷ []))
    (0x68 ∷ 0x08 ∷ 0x66 ∷ 0x06 ∷ 0x64 ∷ 0x04 ∷ 0x62 ∷ 0x02 ∷ [])
    ∷ []

-- two pairs with 1,499 bytes each, and one deleted: its overflow page is free
abbrev pub FreedPages : Type 0
FreedPages = pages_of (delete two_long (0x62 ∷ [])) ≡
    page (numbers_bytes (1 ∷ 0x01000000 ∷ 0 ∷ 0 ∷ 1 ∷ 100 ∷ 1 ∷ 0 ∷ 0 ∷ 4 ∷ 1 ∷ 1 ∷ 0 ∷ 0 ∷ 0
    ∷ 0 ∷ 2 ∷ [])) []
    ∷ page (numbers_bytes (2 ∷ 0x02000000 ∷ 0 ∷ 0 ∷ 3 ∷ [])) []
    ∷ page (numbers_bytes (3 ∷ 0x03000001 ∷ 0 ∷ 0x02240000 ∷ [])
    ++ (0x02 ∷ 0x24 ∷ 0x00 ∷ 0x01 ∷ 0x05 ∷ 0xdb ∷ [])) (0x61 ∷ replicate 1499 0)
    ∷ page (numbers_bytes (4 ∷ 0x05000000 ∷ 0 ∷ 0 ∷ [])) []
    ∷ []

-- before the deletion it has the second pair
abbrev pub OverflowPages : Type 0
OverflowPages = pages_of two_long ≡
    page (numbers_bytes (1 ∷ 0x01000000 ∷ 0 ∷ 0 ∷ 1 ∷ 100 ∷ 2 ∷ 0 ∷ 0 ∷ 0 ∷ 0 ∷ 1 ∷ 0 ∷ 0 ∷ 0
    ∷ 0 ∷ 2 ∷ [])) []
    ∷ page (numbers_bytes (2 ∷ 0x02000000 ∷ 0 ∷ 0 ∷ 3 ∷ [])) []
    ∷ page (numbers_bytes (3 ∷ 0x03000001 ∷ 4 ∷ 0x02240000 ∷ [])
    ++ (0x02 ∷ 0x24 ∷ 0x00 ∷ 0x01 ∷ 0x05 ∷ 0xdb ∷ [])) (0x61 ∷ replicate 1499 0)
    ∷ page (numbers_bytes (4 ∷ 0x04000001 ∷ 0 ∷ 0x02240000 ∷ [])
    ++ (0x02 ∷ 0x24 ∷ 0x00 ∷ 0x01 ∷ 0x05 ∷ 0xdb ∷ [])) (0x62 ∷ replicate 1499 0)
    ∷ []

-- a new file of version 2 and limit 1, after a content of 2,026 bytes was stored: its slot is far,
-- and page 4 has the content and six zeros
abbrev pub FarPages : Type 0
FarPages = pages_of first_far ≡
    page (numbers_bytes (1 ∷ 0x01000000 ∷ 0 ∷ 0 ∷ 2 ∷ 1 ∷ 1 ∷ 0 ∷ 0 ∷ 0 ∷ 0 ∷ 1 ∷ 0 ∷ 0 ∷ 0
    ∷ 0 ∷ 2 ∷ [])) []
    ∷ page (numbers_bytes (2 ∷ 0x02000000 ∷ 0 ∷ 0 ∷ 3 ∷ [])) []
    ∷ page (numbers_bytes (3 ∷ 0x03000001 ∷ 0 ∷ 0x07fb0000 ∷ [])
    ++ (0x07 ∷ 0xfb ∷ 0x80 ∷ 0x01 ∷ 0x07 ∷ 0xea ∷ [])) (0x6b ∷ 0 ∷ 0 ∷ 0 ∷ 0x04 ∷ [])
    ∷ page (numbers_bytes (4 ∷ 0x06000000 ∷ 0 ∷ 0 ∷ []) ++ replicate 2026 0x77) []
    ∷ []
