-- Parts of bytes, and words that are written into them.
use Rattle.std.proofs.Common.{◌≡◌, ◌≢◌, ◌∙◌, inl, inr, sym, ap, ℕ, ◌+◌, ◌*◌, ◌<◌, ◌≤◌, List, ◌++◌, length, take, drop, slice_index, arith, rules}
use Rattle.std.proofs.lemmas.Bool.{cases_lt}
use Rattle.std.proofs.lemmas.List.{places, get_or-take, get_or-drop, drop-drop, length-drop, length-take-le, take_at, drop_at}
use Rattle.std.proofs.lemmas.Grind.{same_number_lists}
use borrow.Rule.Slice.PartMut.{put_mid}
use Rattle.sect_dev.specs.Device.{part_of}
use Rattle.page_model.specs.Bytes.{u32_at, overwrite}
use Rattle.page_io.proofs.Fields.{index_before, index_behind}

pub part_size : (bytes : List ℕ) (k : ℕ) → 512 * k + 512 ≤ length bytes
    → length (part_of bytes k) ≡ 512
unfolding part_of
part_size bytes k fits =
    length-take-le 512 (drop (512 * k) bytes)
    (omega (arith, fits, length-drop (512 * k) bytes))

pub part_at : (bytes : List ℕ) (k j : ℕ) → j < 512
    → slice_index (part_of bytes k) j ≡ slice_index bytes (512 * k + j)
unfolding part_of
part_at bytes k j within =
    get_or-take 512 (drop (512 * k) bytes) j 0 within ∙ get_or-drop (512 * k) bytes j 0

-- a part is known by its bytes
pub is_part : (bytes content : List ℕ) (k : ℕ) → 512 * k + 512 ≤ length bytes
    → length content ≡ 512
    → ((j : ℕ) → j < 512 → slice_index content j ≡ slice_index bytes (512 * k + j))
    → content ≡ part_of bytes k
is_part bytes content k fits size each =
    same_number_lists content (part_of bytes k) (size ∙ sym (part_size bytes k fits))
    (λ j inside.
    let within : j < 512 = omega (arith, inside, size) in
    each j within ∙ sym (part_at bytes k j within))

-- bytes with a content put in the place of a part
module _ (bytes content : List ℕ) (k size : ℕ) (fits : 512 * k + 512 ≤ length bytes)
    (long : length content ≡ 512) (whole : size ≡ 512) where
  abbrev after : List ℕ
  after = put_mid (512 * k) size bytes content

  same_length : length after ≡ length bytes
  same_length = search (rules, places)

  pub put_here : part_of after k ≡ content
  put_here = sym (is_part after content k (omega (arith, fits, same_length)) long
      (λ j within. sym (here j within)))
    where
      here : (j : ℕ) → j < 512 → slice_index after (512 * k + j) ≡ slice_index content j
      here j within = search (rules, places)

  -- the others stay
  pub put_apart : (j : ℕ) → 512 * j + 512 ≤ length bytes → j ≢ k
      → part_of after j ≡ part_of bytes j
  put_apart j inside other = is_part bytes (part_of after j) j inside
      (part_size after j (omega (arith, inside, same_length)))
      (λ i within. part_at after j i within ∙ elim (cases_lt j k) [
        | inl less ↦ sym (before (512 * j + i) (omega (arith, less, within)))
        | inr from ↦ sym (behind (512 * j + i) (omega (arith, from, other, within)))
      ])
    where
      before : (p : ℕ) → p < 512 * k → slice_index bytes p ≡ slice_index after p
      before p early = search (rules, places)

      over : after ≡ overwrite bytes (512 * k) content
      over = let count : size ≡ length content = omega (arith, whole, long) in
          ap (λ (n : ℕ). take (512 * k) bytes ++ (content ++ drop n (drop (512 * k) bytes))) count
          ∙ ap (λ (ys : List ℕ). take (512 * k) bytes ++ (content ++ ys))
          (drop-drop (length content) (512 * k) bytes)

      behind : (p : ℕ) → 512 * k + 512 ≤ p → slice_index bytes p ≡ slice_index after p
      behind p late = sym (ap (λ (ys : List ℕ). slice_index ys p) over
          ∙ index_behind bytes content (512 * k) p (omega (arith, fits)) (omega (arith, late, long)))

-- a word that was written
pub word_here : (xs w : List ℕ) (at : ℕ) → at ≤ length xs → length w ≡ 4
    → take 4 (drop at (overwrite xs at w)) ≡ w
word_here xs w at le long =
    ap (take 4) (drop_at (take at xs) (w ++ drop (at + length w) xs) at (length-take-le at xs le))
    ∙ take_at w (drop (at + length w) xs) 4 long

-- one in front of it
pub word_before : (xs w : List ℕ) (at a : ℕ) → at ≤ length xs → a + 4 ≤ at
    → at + length w ≤ length xs → take 4 (drop a (overwrite xs at w)) ≡ take 4 (drop a xs)
word_before xs w at a le before fits =
    same_number_lists (take 4 (drop a (overwrite xs at w))) (take 4 (drop a xs))
    (sizes ∙ sym size)
    (λ j inside.
    let within : j < 4 = omega (arith, inside, sizes) in
    get_or-take 4 (drop a (overwrite xs at w)) j 0 within ∙ get_or-drop a (overwrite xs at w) j 0
    ∙ index_before xs w at (a + j) le (omega (arith, within, before))
    ∙ sym (get_or-take 4 (drop a xs) j 0 within ∙ get_or-drop a xs j 0))
  where
    all : length (overwrite xs at w) ≡ length xs
    all = search (rules, places)

    sizes : length (take 4 (drop a (overwrite xs at w))) ≡ 4
    sizes = length-take-le 4 (drop a (overwrite xs at w))
        (omega (arith, length-drop a (overwrite xs at w), all, before, le))

    size : length (take 4 (drop a xs)) ≡ 4
    size = length-take-le 4 (drop a xs) (omega (arith, length-drop a xs, before, le))

pub field_before : (xs w : List ℕ) (at a : ℕ) → at ≤ length xs → a + 4 ≤ at
    → u32_at (overwrite xs at w) a ≡ u32_at xs a
field_before xs w at a le before =
    let b0 = index_before xs w at a le (omega (arith, before)) in
    let b1 = index_before xs w at (a + 1) le (omega (arith, before)) in
    let b2 = index_before xs w at (a + 2) le (omega (arith, before)) in
    let b3 = index_before xs w at (a + 2 + 1) le (omega (arith, before)) in
    omega (arith, b0, b1, b2, b3)

-- fields and words of the first part
pub front_field : (first : List ℕ) (a : ℕ) → a + 4 ≤ 512
    → u32_at (part_of first 0) a ≡ u32_at first a
front_field first a fits =
    let at = λ (j : ℕ) (lt : j < 512). part_at first 0 j lt
    ∙ ap (slice_index first) (let place : 512 * 0 + j ≡ j = omega arith in place) in
    let b0 = at a (omega (arith, fits)) in
    let b1 = at (a + 1) (omega (arith, fits)) in
    let b2 = at (a + 2) (omega (arith, fits)) in
    let b3 = at (a + 2 + 1) (omega (arith, fits)) in
    omega (arith, b0, b1, b2, b3)

pub front_word : (first : List ℕ) (a : ℕ) → a + 4 ≤ 512 → 512 ≤ length first
    → take 4 (drop a (part_of first 0)) ≡ take 4 (drop a first)
front_word first a fits long =
    same_number_lists (take 4 (drop a (part_of first 0))) (take 4 (drop a first))
    (sizes ∙ sym size)
    (λ j inside.
    let within : j < 4 = omega (arith, inside, sizes) in
    get_or-take 4 (drop a (part_of first 0)) j 0 within ∙ get_or-drop a (part_of first 0) j 0
    ∙ part_at first 0 (a + j) (omega (arith, within, fits))
    ∙ ap (slice_index first) (let place : 512 * 0 + (a + j) ≡ a + j = omega arith in place)
    ∙ sym (get_or-take 4 (drop a first) j 0 within ∙ get_or-drop a first j 0))
  where
    sizes : length (take 4 (drop a (part_of first 0))) ≡ 4
    sizes = length-take-le 4 (drop a (part_of first 0))
        (omega (
          arith,
          length-drop a (part_of first 0),
          part_size first 0 (omega (arith, long)),
          fits,
        ))

    size : length (take 4 (drop a first)) ≡ 4
    size = length-take-le 4 (drop a first) (omega (arith, length-drop a first, fits, long))
