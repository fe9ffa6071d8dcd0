-- Two pages of records, of which the bytes of the slots and those of the records are the same.
use Rattle.std.proofs.Common.{◌≡◌, ℕ, ◌+◌, ◌-◌, ◌*◌, ◌≤◌, ◌<◌, List, length, get_or, take, drop, sym, ap, ◌∙◌, arith, inl, inr}
use Rattle.std.proofs.lemmas.Bool.{cases_lt}
use Rattle.std.proofs.lemmas.Grind.{same_number_lists}
use Rattle.std.proofs.lemmas.List.{get_or-take, get_or-drop}
use Rattle.page_model.specs.Bytes.{u16_at}
use Rattle.page_model.specs.Reading.{slot_count, low}
use Rattle.page_io.specs.BucketPages.{IsBucketPage, page_records}
use Rattle.slot_page.proofs.Pages.{counted, laid_out, length-page}

module _ (a b : List ℕ) where
  in_front : (from k : ℕ) → k < from → take from a ≡ take from b → get_or a k 0 ≡ get_or b k 0
  in_front from k lt same =
      sym (get_or-take from a k 0 lt) ∙ ap (λ (xs : List ℕ). get_or xs k 0) same
      ∙ get_or-take from b k 0 lt

  behind : (to n k : ℕ) → to ≤ k → k < to + n → take n (drop to a) ≡ take n (drop to b)
      → get_or a k 0 ≡ get_or b k 0
  behind to n k le lt same =
      let there : to + (k - to) ≡ k = omega arith in
      let within : k - to < n = omega arith in
      ap (λ (j : ℕ). get_or a j 0) (sym there) ∙ sym (get_or-drop to a (k - to) 0)
      ∙ sym (get_or-take n (drop to a) (k - to) 0 within)
      ∙ ap (λ (xs : List ℕ). get_or xs (k - to) 0) same
      ∙ get_or-take n (drop to b) (k - to) 0 within
      ∙ get_or-drop to b (k - to) 0 ∙ ap (λ (j : ℕ). get_or b j 0) there

  field : (from k : ℕ) → k + 1 < from → take from a ≡ take from b → u16_at a k ≡ u16_at b k
  field from k lt same =
      let high = in_front from k (omega arith) same in
      let low = in_front from (k + 1) lt same in λ i. high i * 256 + low i

  module _ (is_a : IsBucketPage a) (is_b : IsBucketPage b) (from to : ℕ)
      (from_is : from ≡ 16 + 6 * length (page_records a)) (to_is : to ≡ low a)
      (front : take from a ≡ take from b)
      (back : take (2048 - to) (drop to a) ≡ take (2048 - to) (drop to b)) where
    -- in both the bytes between are zeros
    between : (k : ℕ) → from ≤ k → k < to → get_or a k 0 ≡ get_or b k 0
    between k le lt =
        let count : slot_count a ≡ slot_count b = field from 6 (omega (arith, from_is)) front in
        let low_same : low a ≡ low b = field from 12 (omega (arith, from_is)) front in
        let many = (counted a is_a).count_is in
        (laid_out a is_a).gap k (omega (arith, from_is, many)) (omega (arith, to_is))
        ∙ sym ((laid_out b is_b).gap k (omega (arith, from_is, many, count))
        (omega (arith, to_is, low_same)))

    each : (k : ℕ) → k < 2048 → get_or a k 0 ≡ get_or b k 0
    each k lt = elim (cases_lt k from) [
      | inl first ↦ in_front from k first front
      | inr rest ↦ elim (cases_lt k to) [
        | inl gap ↦ between k rest gap
        | inr last ↦ behind to (2048 - to) k last (omega arith) back
      ]
    ]

    pub same_bytes : a ≡ b
    same_bytes =
        let long = length-page a is_a in
        same_number_lists a b (long ∙ sym (length-page b is_b)) (λ k lt. each k (omega arith))
