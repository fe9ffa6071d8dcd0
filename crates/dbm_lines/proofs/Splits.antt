-- A line cut at its first separator.
use Rattle.std.proofs.Common.{◌≡◌, inl, inr, ℕ, suc, ◌+◌, ◌-◌, ◌<◌, ◌≤◌, Bool, true, false, not, cond, List, [], ◌∷◌, length, take, drop, length-drop, get_or, ltb, Option, Some, None, refl, sym, ap, arith}
use Rattle.std.specs.List.{position, position_or_len, slice_split, onto_first}
use Rattle.std.proofs.lemmas.List.{take_all}
use Rattle.std.proofs.lemmas.List.Splits.{slice_split_first}
use Rattle.std.proofs.lemmas.List.Sums.{position_or_len_is}
use Rattle.std.proofs.lemmas.Bool.{false_from_ne_true, le-ltb, lt-ltb}
use Rattle.std.proofs.lemmas.Bool.Decides.{leb_tells}
use Rattle.memchr.specs.Find.{IsFirstByte}

module _ (p : ℕ → Bool) where
  whole : (xs : List ℕ) → length xs ≤ position_or_len p xs → slice_split p xs ≡ xs ∷ []
  whole [] h = refl
  whole (x ∷ xs) h = (elim (p x) as
      (λ b. (length (x ∷ xs) ≤ cond (not b) (1 + position_or_len p xs) 0)
      → cond b ([] ∷ slice_split p xs) (onto_first x (slice_split p xs)) ≡ (x ∷ xs) ∷ []) [
        | true ↦ λ h. absurd (omega (arith, h))
        | false ↦ λ h. rw (whole xs (omega (arith, h))) refl
      ]) h

  there : (xs : List ℕ) (i : ℕ) → position p xs ≡ Some i
      → (slice_split p xs ≡ take i xs ∷ slice_split p (drop (i + 1) xs)) × (i < length xs)
  there xs i h = elim (leb_tells (suc (position_or_len p xs)) (length xs)) [
    | inl w ↦ let e = rw (w.0) at h in let same : i ≡ position_or_len p xs = cc in
        rw same (slice_split_first p xs 0 w.1, w.1)
    | inr w ↦ let e = rw (w.0) at h in cc
  ]

  pub past_all : (xs : List ℕ) → None ≡ position p xs → length xs ≤ position_or_len p xs
  past_all xs h = elim (leb_tells (suc (position_or_len p xs)) (length xs)) [
    | inl w ↦ let e = rw (w.0) at h in cc
    | inr w ↦ omega (arith, w.1)
  ]

  -- one part where none passes
  pub split_nowhere : (xs : List ℕ) → None ≡ position p xs → slice_split p xs ≡ xs ∷ []
  split_nowhere xs h = whole xs (past_all xs h)

  -- the parts before and behind the first that passes
  pub split_there : (xs : List ℕ) (i : ℕ) → Some i ≡ position p xs
      → slice_split p xs ≡ take i xs ∷ slice_split p (take (length xs - (i + 1)) (drop (i + 1) xs))
  split_there xs i h =
      let cut = there xs i (sym h) in
      let rest : take (length xs - (i + 1)) (drop (i + 1) xs) ≡ drop (i + 1) xs =
      take_all (length xs - (i + 1)) (drop (i + 1) xs)
      (omega (arith, length-drop (i + 1) xs, cut.1)) in
      rw rest cut.0

-- the first byte that passes is at the first place that does
pub first_place : (p : ℕ → Bool) (xs : List ℕ) (r : Option ℕ) → IsFirstByte p xs r
    → r ≡ position p xs
first_place p xs None nowhere =
    let at : position_or_len p xs ≡ length xs =
    position_or_len_is p xs (length xs) 0 (omega arith)
    (λ k lt. false_from_ne_true (p (get_or xs k 0)) (nowhere k (omega arith) lt))
    (λ lt. absurd (omega (arith, lt))) in
    let none : ltb (position_or_len p xs) (length xs) ≡ false =
    le-ltb (position_or_len p xs) (length xs) (omega (arith, at)) in
    rw none refl
first_place p xs (Some k) found =
    let at : position_or_len p xs ≡ k = position_or_len_is p xs k 0 (omega (arith, found.0.high))
    (λ j lt. false_from_ne_true (p (get_or xs j 0)) (found.0.before j (omega arith) lt))
    (λ lt. found.1) in
    let one : ltb (position_or_len p xs) (length xs) ≡ true =
    lt-ltb (position_or_len p xs) (length xs) (omega (arith, at, found.0.high)) in
    rw one (ap Some (sym at))
