-- Numbers read from a part of a page's bytes, and parts written over.
use Rattle.std.proofs.Common.{◌≡◌, ◌↔◌, inl, inr, ℕ, ◌+◌, ◌-◌, ◌<◌, ◌≤◌, List, [], ◌++◌, length, slice_index, take, drop, ap, ◌∙◌, arith}
use Rattle.std.specs.Prelude.{bit_or}
use Rattle.std.proofs.lemmas.Bool.{cases_lt}
use Rattle.std.proofs.lemmas.Nat.{le_or_l, le_or_r}
use Rattle.page_model.specs.Reading.{IsClear}
use Rattle.std.proofs.lemmas.List.{get_or-drop, drop-drop, drop_all, append-nil, length-take, length-drop, take_all}
use borrow.Rule.Slice.PartMut.{put_mid}
use Rattle.byteorder.specs.Endian.{big_number}
use Rattle.page_model.specs.Bytes.{u16_at, u32_at, overwrite}

-- numbers at the front of what stands from a place on
module _ (xs : List ℕ) (at size n : ℕ) (long : length xs ≡ size) where
  all : take (size - at) (drop at xs) ≡ drop at xs
  all = take_all (size - at) (drop at xs) (omega (arith, long, length-drop at xs))

  byte : (i j : ℕ) → at + i ≡ j → slice_index (drop at xs) i ≡ slice_index xs j
  byte i j place = get_or-drop at xs i 0 ∙ ap (λ (k : ℕ). slice_index xs k) place

  pub u16_front : n ≡ big_number 2 (take (size - at) (drop at xs)) → n ≡ u16_at xs at
  u16_front is =
      let read : n ≡ big_number 2 (drop at xs) = is ∙ ap (big_number 2) all in
      let b0 = byte 0 at (omega arith) in
      let b1 = byte 1 (at + 1) (omega arith) in
      omega (arith, read, b0, b1)

  pub u32_front : n ≡ big_number 4 (take (size - at) (drop at xs)) → n ≡ u32_at xs at
  u32_front is =
      let read : n ≡ big_number 4 (drop at xs) = is ∙ ap (big_number 4) all in
      let b0 = byte 0 at (omega arith) in
      let b1 = byte 1 (at + 1) (omega arith) in
      let b2 = byte 2 (at + 2) (omega arith) in
      let b3 = byte 3 (at + 2 + 1) (omega arith) in
      omega (arith, read, b0, b1, b2, b3)

-- no number is in an empty range
pub none_between : (from k : ℕ) → from ≤ k → k < from → ⊥
none_between from k ge lt = omega (arith, ge, lt)

-- one byte more, put to those before it
pub clear_more : (bytes : List ℕ) (from k any : ℕ) → from ≤ k
    → (any ≡ 0) ↔ IsClear bytes from k
    → (bit_or any (slice_index bytes k) ≡ 0) ↔ IsClear bytes from (k + 1)
clear_more bytes from k any ge before =
    let byte = slice_index bytes k in (
      λ none j from_j below.
          let any_is : any ≡ 0 = omega (arith, none, le_or_l any byte) in
          let byte_is : byte ≡ 0 = omega (arith, none, le_or_r any byte) in
          elim (cases_lt j k) [
            | inl less ↦ before.0 any_is j from_j less
            | inr not ↦ ap (slice_index bytes) (let at : j ≡ k = omega arith in at) ∙ byte_is
          ],
      λ clear.
          let any_is : any ≡ 0 = before.1 (λ j from_j less. clear j from_j (omega arith)) in
          let byte_is : byte ≡ 0 = clear k ge (omega arith) in
          ap (λ (x : ℕ). bit_or x byte) any_is ∙ ap (bit_or 0) byte_is,
    )

-- a part that is written over
pub put_over : (xs part new : List ℕ) (at size : ℕ) → part ≡ new → length new ≡ size
    → put_mid at (at + size - at) xs part ≡ overwrite xs at new
put_over xs part new at size is long =
    let count : at + size - at ≡ length new = omega (arith, long) in
    ap (λ (ys : List ℕ). put_mid at (at + size - at) xs ys) is
    ∙ ap (λ (k : ℕ). take at xs ++ (new ++ drop k (drop at xs))) count
    ∙ ap (λ (ys : List ℕ). take at xs ++ (new ++ ys)) (drop-drop (length new) at xs)

-- a part that is written over from its front on
pub write_over : (xs part new : List ℕ) (at size : ℕ)
    → part ≡ new ++ drop size (take (at + size - at) (drop at xs)) → length new ≡ size
    → put_mid at (at + size - at) xs part ≡ overwrite xs at new
write_over xs part new at size is long =
    let rest : drop size (take (at + size - at) (drop at xs)) ≡ [] =
    drop_all size (take (at + size - at) (drop at xs))
    (omega (arith, length-take (at + size - at) (drop at xs))) in
    put_over xs part new at size (is ∙ ap (λ (ys : List ℕ). new ++ ys) rest ∙ append-nil new) long
