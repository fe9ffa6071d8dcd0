-- The digits and the bytes of a block, lane by lane.
use Rattle.std.proofs.Common.{◌≡◌, ℕ, ◌+◌, ◌-◌, ◌*◌, ◌/◌, ◌%◌, ◌^◌, ◌<◌, ◌==◌, Bool, true, false, cond, eqb, ltb, nat_lt, ◌&&◌, inl, inr, List, [], ◌∷◌, ◌++◌, map, length, get_or, take, drop, replicate, bit_and, w8, Fits, Option, Some, None, All, refl, sym, ap, subst, ◌∙◌, arith}
use Rattle.std.proofs.lemmas.Bool.{agree_below_at, cases_eq, eq-eqb, eqb-true, ne_eqb}
use Rattle.std.proofs.lemmas.List.{ext_get_or, get_or-map, length-append, length-map}
use Rattle.std.proofs.Math.Seq.{take-append_seam, drop-append_seam}
use Rattle.std.proofs.lemmas.List.Elements.{All-map}
use Rattle.std.proofs.Math.Nat.{one-le-pow, two-pow-succ}
use Rattle.std.proofs.lemmas.Nat.{and_mask, and_le_r}
use Rattle.std.proofs.lemmas.Simd.{Each1-get_or, Each1-from_get_or, SwzOk, SwzOk-from_below, swz_l, length-swz_l, get_or-swz_l_below, bitmask_splat, map-map, pick_l_left, pick_l_whole, zip2_splat}
use Rattle.std.specs.List.{range_with_len, list_all}
use Rattle.std.specs.Simd.Lanes.{Each1, zip2, mask_l, pick_l, sel_l, top}
use Rattle.hex.specs.Hex.{encode_with, encode_lower, hex_digit_value, lower_digits}
use Rattle.dbm_lines.specs.Digits.{digit_at, value_of_digit}

-- the lanes of a block of digits, one by one
abbrev pub lanes_of : List ℕ → List ℕ
lanes_of xs = pick_l 0 xs (range_with_len 0 32)

lanes_are : (xs : List ℕ) → length xs ≡ 32 → lanes_of xs ≡ xs
lanes_are xs long = pick_l_whole 0 xs 32 long

-- ---- bytes as digits

-- the items of two lists in turn
abbrev pub woven : List ℕ → List ℕ → List ℕ
woven [] ys = []
woven (x ∷ xs) [] = []
woven (x ∷ xs) (y ∷ ys) = x ∷ y ∷ woven xs ys

woven_digits : (bytes : List ℕ)
    → woven (map (λ b. digit_at (b / 16)) bytes) (map (λ b. digit_at (bit_and b 15)) bytes)
    ≡ encode_lower bytes
unfolding encode_with
woven_digits [] = refl
woven_digits (b ∷ bytes) =
    λ i. digit_at (b / 16) ∷ digit_at (and_mask b 4 i) ∷ woven_digits bytes i

abbrev pub halved : List ℕ → List ℕ
halved block = zip2 (λ (a b : ℕ). a / 2 ^ b) block (replicate 16 4)

abbrev pub masked : List ℕ → List ℕ
masked block = zip2 bit_and block (replicate 16 15)

module _ (block : List ℕ) (long : length block ≡ 16) where
  halved_is : halved block ≡ map (λ b. b / 16) block
  halved_is = zip2_splat (λ (a b : ℕ). a / 2 ^ b) block 16 4 long

  masked_is : masked block ≡ map (λ b. bit_and b 15) block
  masked_is = zip2_splat bit_and block 16 15 long

  pub halved_small : Each1 (Fits w8) block → All (λ value. value < 16) (halved block)
  halved_small fits =
      subst (All (λ value. value < 16)) (sym halved_is)
      (All-map (λ value. value < 16) (λ b. b / 16) block (λ k d within.
      let small = (Each1-get_or (Fits w8) block k d within fits).fits in omega (arith, small)))

  pub masked_small : All (λ value. value < 16) (masked block)
  masked_small =
      subst (All (λ value. value < 16)) (sym masked_is)
      (All-map (λ value. value < 16) (λ b. bit_and b 15) block (λ k d within.
      omega (arith, and_le_r (get_or block k d) 15)))

  pub block_digits : (high low : List ℕ) → high ≡ map digit_at (halved block)
      → low ≡ map digit_at (masked block)
      → woven (take 16 (lanes_of (high ++ low))) (drop 16 (lanes_of (high ++ low)))
      ≡ encode_lower block
  block_digits high low high_is low_is =
      let h : high ≡ map (λ b. digit_at (b / 16)) block =
      high_is ∙ ap (map digit_at) halved_is ∙ map-map digit_at (λ b. b / 16) block in
      let l : low ≡ map (λ b. digit_at (bit_and b 15)) block =
      low_is ∙ ap (map digit_at) masked_is ∙ map-map digit_at (λ b. bit_and b 15) block in
      let high_long : length high ≡ 16 = ap length h ∙ length-map block (λ b. digit_at (b / 16)) ∙ long in
      let low_long : length low ≡ 16 = ap length l ∙ length-map block (λ b. digit_at (bit_and b 15)) ∙ long in
      let all : lanes_of (high ++ low) ≡ high ++ low =
      lanes_are (high ++ low) (omega (arith, length-append high low, high_long, low_long)) in
      let front : take 16 (lanes_of (high ++ low)) ≡ high =
      ap (take 16) all ∙ ap (λ n. take n (high ++ low)) (sym high_long) ∙ take-append_seam high low in
      let back : drop 16 (lanes_of (high ++ low)) ≡ low =
      ap (drop 16) all ∙ ap (λ n. drop n (high ++ low)) (sym high_long) ∙ drop-append_seam high low in
      (λ i. woven ((front ∙ h) i) ((back ∙ l) i)) ∙ woven_digits block

-- each value is a place of the sixteen digits
pub places : (values : List ℕ) → length values ≡ 16 → All (λ value. value < 16) values
    → SwzOk w8 16 16 0 values
places values long small =
    SwzOk-from_below w8 16 1 16 0 values refl (omega (arith, long))
    (Each1-from_get_or (λ value. value < 16) values 0 (λ k within. small k 0 within))

pub looked_up : (values : List ℕ) → length values ≡ 16 → All (λ value. value < 16) values
    → swz_l w8 16 lower_digits 0 values ≡ map digit_at values
looked_up values long small =
    let looked = swz_l w8 16 lower_digits 0 values in
    let as_long : length looked ≡ length values = length-swz_l w8 16 lower_digits 0 values in
    ext_get_or 0 looked (map digit_at values) (as_long ∙ sym (length-map values digit_at)) (λ k lt.
    let within : k < length values = omega (arith, lt, as_long) in
    let value = get_or values k 0 in
    let block : 16 * ((0 + k) / 16) + value ≡ value = omega (arith, within, long) in
    get_or-swz_l_below w8 16 lower_digits 0 values k within (small k 0 within)
    ∙ ap (λ place. get_or lower_digits place 0) block
    ∙ sym (get_or-map digit_at values k 0 0 within))

-- ---- digits as values

abbrev sums : List ℕ → List ℕ → List ℕ
sums xs ys = zip2 (λ (a b : ℕ). (a + b) % 2 ^ 8) xs ys

abbrev differences : List ℕ → List ℕ → List ℕ
differences xs ys = zip2 (λ (a b : ℕ). (a + (2 ^ 8 - b)) % 2 ^ 8) xs ys

-- lane by lane, where the first is below the second
abbrev where_below : List ℕ → List ℕ → List Bool
where_below xs ys = map (top 7) (zip2 (λ (a b : ℕ). cond (ltb a b) 255 0) xs ys)

abbrev greater : List ℕ → List ℕ → List ℕ
greater xs ys = sel_l (where_below xs ys) ys xs

abbrev smaller : List ℕ → List ℕ → List ℕ
smaller xs ys = sel_l (where_below xs ys) xs ys

abbrev decimals : ℕ → List ℕ → List ℕ
decimals n digits =
    let raised = sums digits (replicate n 198) in
    sums (differences (greater raised (replicate n 6)) (replicate n 6)) (replicate n 16)

abbrev letters : ℕ → List ℕ → List ℕ
letters n digits =
    let folded = zip2 bit_and digits (replicate n 0xdf) in
    sums (smaller (differences folded (replicate n 65)) (replicate n 245)) (replicate n 10)

abbrev pub values_of : ℕ → List ℕ → List ℕ
values_of n digits = smaller (decimals n digits) (letters n digits)

-- the values of one digit
abbrev value_of : ℕ → ℕ
value_of digit = get_or (values_of 1 (digit ∷ [])) 0 0

abbrev same : Option ℕ → Option ℕ → Bool
same None None = true
same (Some a) (Some b) = a == b
same a b = false

same_is : (a b : Option ℕ) → same a b ≡ true → a ≡ b
same_is None None h = refl
same_is None (Some b) h = cc
same_is (Some a) None h = cc
same_is (Some a) (Some b) h = ap Some (eqb-true a b h)

one_value : (digit : ℕ) → digit < 256 → value_of_digit (value_of digit) ≡ hex_digit_value digit
one_value digit small =
    same_is _ _ (agree_below_at
    (λ d. same (value_of_digit (value_of d)) (hex_digit_value d)) (λ d. true) 256 digit refl small)

each_value : (digits : List ℕ) → Each1 (Fits w8) digits
    → map value_of_digit (values_of (length digits) digits) ≡ map hex_digit_value digits
each_value [] fits = refl
each_value (digit ∷ digits) fits =
    λ i. one_value digit fits.0.fits i ∷ each_value digits fits.1 i

pub block_values : (digits : List ℕ) → (length digits ≡ 32) × Each1 (Fits w8) digits
    → map value_of_digit (values_of 32 digits) ≡ map hex_digit_value digits
block_values digits fits =
    ap (λ n. map value_of_digit (values_of n digits)) (sym fits.0) ∙ each_value digits fits.1

-- ---- whether each is a value

next_lane : (passes : Bool) (mask power : ℕ) (rest : Bool) → 0 < power
    → eqb mask (power - 1) ≡ rest
    → eqb (cond passes 1 0 + 2 * mask) (power + power - 1) ≡ (passes && rest)
next_lane true mask power rest some is =
    elim (cases_eq mask (power - 1)) [
      | inl all ↦ eq-eqb _ _ (omega (arith, all, some)) ∙ sym (eq-eqb _ _ all) ∙ is
      | inr less ↦ ne_eqb _ _ (λ all. less (omega (arith, all, some))) ∙ sym (ne_eqb _ _ less) ∙ is
    ]
next_lane false mask power rest some is = ne_eqb _ _ (λ all. omega (arith, all, some))

all_lanes : (test : ℕ → Bool) (xs : List ℕ)
    → eqb (mask_l (map test xs)) (2 ^ length xs - 1) ≡ list_all test xs
all_lanes test [] = refl
all_lanes test (x ∷ xs) =
    ap (λ n. eqb (mask_l (map test (x ∷ xs))) (n - 1)) (two-pow-succ (length xs))
    ∙ next_lane (test x) (mask_l (map test xs)) (2 ^ length xs) _
    (one-le-pow (length xs) 2 (omega arith)) (all_lanes test xs)

pub block_passes : (values : List ℕ) → length values ≡ 32
    → eqb (mask_l (where_below values (replicate 32 16)) % 2 ^ 64) (2 ^ 32 - 1)
    ≡ list_all (λ value. nat_lt value 16) values
block_passes values long =
    ap (λ mask. eqb mask (2 ^ 32 - 1)) (bitmask_splat w8 ltb values 32 16 long (omega arith))
    ∙ ap (λ n. eqb (mask_l (map (λ value. nat_lt value 16) values)) (2 ^ n - 1)) (sym long)
    ∙ all_lanes (λ value. nat_lt value 16) values

-- ---- values as bytes

-- the bytes of values in pairs
abbrev pub paired : List ℕ → List ℕ
paired [] = []
paired (high ∷ []) = []
paired (high ∷ low ∷ values) = (high * 16 % 256 + low) % 256 ∷ paired values

pub block_paired : (values : List ℕ) → length values ≡ 32
    → paired (lanes_of (values ++ values)) ≡ paired values
block_paired values long =
    ap paired (pick_l_left 0 values values 32 (range_with_len 0 32) long tt
    ∙ lanes_are values long)
