-- A buffer's bytes, as reads of a file fill them in.
use Rattle.std.proofs.Common.{◌≡◌, ◌∙◌, sym, ap, ℕ, ◌+◌, ◌-◌, ◌<◌, ◌≤◌, List, length, take, slice_index, inl, inr, arith, rules, get_or-take}
use Rattle.std.proofs.lemmas.List.{places, length-take-le}
use Rattle.std.proofs.lemmas.Bool.{cases_lt}
use borrow.Rule.Slice.PartMut.{put_mid}

-- a buffer of so many bytes, of which the first are filled, with others put in the place of those
-- that are left; content is what each is to be
module _ (size filled : ℕ) (out part : List ℕ) (content : ℕ → ℕ) (long : length out ≡ size)
    (within : filled ≤ size) (fits : length part ≡ size - filled)
    (before : (j : ℕ) → j < filled → content j ≡ slice_index out j) where
  abbrev after : List ℕ
  after = put_mid filled (size - filled) out part

  -- what was filled stays
  pub at_early : (j : ℕ) → j < filled → content j ≡ slice_index after j
  at_early j early =
      let same : slice_index out j ≡ slice_index after j = search (rules, places) in
      before j early ∙ same

  at_late : (j : ℕ) → filled ≤ j → j < size → slice_index after j ≡ slice_index part (j - filled)
  at_late j late inside = search (rules, places)

  -- as many bytes as a read gave
  pub more_filled : (k : ℕ) → k ≤ length part
      → ((i : ℕ) → i < length (take k part) → content (filled + i) ≡ slice_index (take k part) i)
      → (j : ℕ) → j < filled + k → content j ≡ slice_index after j
  more_filled k most gave j inside = elim (cases_lt j filled) [
    | inl early ↦ at_early j early
    | inr late ↦
        let given : j - filled < k = omega (arith, late, inside) in
        let counted : length (take k part) ≡ k = length-take-le k part most in
        let place : j ≡ filled + (j - filled) = omega (arith, late) in
        ap content place ∙ gave (j - filled) (omega (arith, given, counted))
        ∙ get_or-take k part (j - filled) 0 given
        ∙ sym (at_late j late (omega (arith, inside, most, fits, within)))
  ]

  -- zeros, where a read gave none
  pub rest_filled : ((j : ℕ) → j < length part → slice_index part j ≡ 0)
      → ((j : ℕ) → filled ≤ j → content j ≡ 0)
      → (j : ℕ) → j < size → content j ≡ slice_index after j
  rest_filled zeros ended j inside = elim (cases_lt j filled) [
    | inl early ↦ at_early j early
    | inr late ↦ ended j late ∙ sym (zeros (j - filled) (omega (arith, late, inside, fits)))
        ∙ sym (at_late j late inside)
  ]
