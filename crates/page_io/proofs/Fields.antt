-- Fields of a page after a write, for the layers above.
use Rattle.std.proofs.Common.{◌≡◌, ℕ, ◌+◌, ◌-◌, ◌<◌, ◌≤◌, ◌^◌, List, ◌++◌, length, get_or, set, take, drop, refl, sym, ◌∙◌, ap, arith, get_or-set_other}
use Rattle.std.proofs.lemmas.List.{get_or-take, get_or-drop, get_or_append_left, get_or-append_right, length-take-le}
use Rattle.std.proofs.lemmas.Nat.{from_be_bytes-to_be_bytes_2, from_be_bytes-to_be_bytes_4}
use Rattle.page_model.specs.Bytes.{u16_at, u32_at, u16_bytes, u32_bytes, overwrite}
use Rattle.page_io.specs.Page.{own_number}

-- a byte before what is written
pub index_before : (xs ys : List ℕ) (at i : ℕ) → at ≤ length xs → i < at
    → get_or (overwrite xs at ys) i 0 ≡ get_or xs i 0
index_before xs ys at i le lt =
    get_or_append_left (take at xs) (ys ++ drop (at + length ys) xs) 0 i
    (omega (arith, lt, length-take-le at xs le)) ∙ get_or-take at xs i 0 lt

-- a byte from where the write begins on
index_from : (xs ys : List ℕ) (at i : ℕ) → at ≤ length xs
    → get_or (overwrite xs at ys) (at + i) 0 ≡ get_or (ys ++ drop (at + length ys) xs) i 0
index_from xs ys at i le =
    let place : at + i - at ≡ i = omega arith in
    get_or-append_right (take at xs) (ys ++ drop (at + length ys) xs) at (at + i) 0
    (length-take-le at xs le) (omega arith)
    ∙ ap (λ (k : ℕ). get_or (ys ++ drop (at + length ys) xs) k 0) place

-- a byte of what is written
pub index_inside : (xs ys : List ℕ) (at i : ℕ) → at ≤ length xs → i < length ys
    → get_or (overwrite xs at ys) (at + i) 0 ≡ get_or ys i 0
index_inside xs ys at i le lt =
    index_from xs ys at i le ∙ get_or_append_left ys (drop (at + length ys) xs) 0 i lt

-- a byte behind what is written
pub index_behind : (xs ys : List ℕ) (at i : ℕ) → at ≤ length xs → at + length ys ≤ i
    → get_or (overwrite xs at ys) i 0 ≡ get_or xs i 0
index_behind xs ys at i le behind =
    let from : at + (i - at) ≡ i = omega (arith, behind) in
    let back : at + length ys + (i - at - length ys) ≡ i = omega (arith, behind) in
    ap (λ (k : ℕ). get_or (overwrite xs at ys) k 0) (sym from) ∙ index_from xs ys at (i - at) le
    ∙ get_or-append_right ys (drop (at + length ys) xs) (length ys) (i - at) 0 refl
    (omega (arith, behind))
    ∙ get_or-drop (at + length ys) xs (i - at - length ys) 0 ∙ ap (λ (k : ℕ). get_or xs k 0) back

-- what was written is read again
pub u16_again : (xs : List ℕ) (at n : ℕ) → at + 2 ≤ length xs → n < 2 ^ 16
    → u16_at (overwrite xs at (u16_bytes n)) at ≡ n
u16_again xs at n fits lt =
    let b0 = index_inside xs (u16_bytes n) at 0 (omega (arith, fits)) (omega arith) in
    let b1 = index_inside xs (u16_bytes n) at 1 (omega (arith, fits)) (omega arith) in
    let none : at + 0 ≡ at = omega arith in
    let first = ap (λ (k : ℕ). get_or (overwrite xs at (u16_bytes n)) k 0) (sym none) ∙ b0 in
    omega (arith, first, b1, from_be_bytes-to_be_bytes_2 n lt)

pub u32_again : (xs : List ℕ) (at n : ℕ) → at + 4 ≤ length xs → n < 2 ^ 32
    → u32_at (overwrite xs at (u32_bytes n)) at ≡ n
u32_again xs at n fits lt =
    let bytes = overwrite xs at (u32_bytes n) in
    let none : at + 0 ≡ at = omega arith in
    let last : at + 2 + 1 ≡ at + 3 = omega arith in
    let b0 = ap (λ (k : ℕ). get_or bytes k 0) (sym none)
    ∙ index_inside xs (u32_bytes n) at 0 (omega (arith, fits)) (omega arith) in
    let b1 = index_inside xs (u32_bytes n) at 1 (omega (arith, fits)) (omega arith) in
    let b2 = index_inside xs (u32_bytes n) at 2 (omega (arith, fits)) (omega arith) in
    let b3 = ap (λ (k : ℕ). get_or bytes k 0) last
    ∙ index_inside xs (u32_bytes n) at 3 (omega (arith, fits)) (omega arith) in
    omega (arith, b0, b1, b2, b3, from_be_bytes-to_be_bytes_4 n lt)

-- the own number after a write behind it
pub own_of_overwrite : (xs ys : List ℕ) (at : ℕ) → 4 ≤ at → at ≤ length xs
    → own_number (overwrite xs at ys) ≡ own_number xs
unfolding own_number
own_of_overwrite xs ys at behind le =
    let b0 = index_before xs ys at 0 le (omega (arith, behind)) in
    let b1 = index_before xs ys at 1 le (omega (arith, behind)) in
    let b2 = index_before xs ys at 2 le (omega (arith, behind)) in
    let b3 = index_before xs ys at 3 le (omega (arith, behind)) in
    omega (arith, b0, b1, b2, b3)

pub own_of_set : (xs : List ℕ) (at b : ℕ) → 4 ≤ at → own_number (set xs at b) ≡ own_number xs
unfolding own_number
own_of_set xs at b behind =
    let other = λ (i : ℕ) (lt : i < 4).
    get_or-set_other xs at i b 0 (λ same. omega (arith, same, lt, behind)) in
    omega (
      arith,
      other 0 (omega arith),
      other 1 (omega arith),
      other 2 (omega arith),
      other 3 (omega arith),
    )

-- the own number after a new one is written
pub own_of_new : (xs : List ℕ) (n : ℕ) → 4 ≤ length xs → n < 2 ^ 32
    → own_number (overwrite xs 0 (u32_bytes n)) ≡ n
unfolding own_number
own_of_new xs n fits lt = u32_again xs 0 n (omega (arith, fits)) lt
