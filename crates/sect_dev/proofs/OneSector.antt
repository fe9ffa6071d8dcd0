-- What is written of a run of one sector.
use Rattle.std.proofs.Common.{◌≡◌, ◌≢◌, ◌∙◌, ⊎_elim, inl, inr, ap, sym, ℕ, ◌+◌, List, length, arith}
use Rattle.std.proofs.lemmas.Bool.{cases_eq, cases_lt}
use Rattle.sect_dev.specs.Device.{Image, Candidates, with_sector, with_candidate, NoNewCandidate, IsWrittenOrNot, sector_count, part_of, HasRun, IsOutsideRun, IsPart, IsRunWritten, IsRunPartlyWritten, with_run_candidates}
use Rattle.sect_dev.specs.Moments.{at_same, at_other}
use Rattle.sect_dev.proofs.Parts.{one_part, part_is_all}

module _ (n : ℕ) (bytes : List ℕ) (whole : length bytes ≡ 512) where
  is_all : (m : ℕ) (c : List ℕ) → IsPart n bytes m c → (m ≡ n) × (c ≡ bytes)
  is_all m c part =
      let first : part.k ≡ 0 = omega (arith, part.within, one_part bytes whole) in (
        omega (arith, part.place, first),
        part.same ∙ ap (part_of bytes) first ∙ part_is_all bytes whole,
      )

  pub one_candidate : (old new : Candidates) → NoNewCandidate (with_run_candidates old n bytes) new
      → NoNewCandidate (with_candidate old n bytes) new
  one_candidate old new fewer m c may =
      ⊎_elim (λ is. inl is) (λ part. inr (is_all m c part)) (fewer m c may)

  pub one_read : (image : Image) → HasRun image n bytes → bytes ≡ image n
  one_read image has =
      let place : n ≡ n + 0 = omega arith in
      sym (ap image place ∙ has 0 (omega (arith, one_part bytes whole)) ∙ part_is_all bytes whole)

  module _ (old new : Image) where
    other : (m : ℕ) → m ≢ n → new m ≡ old m → new m ≡ with_sector old n bytes m
    other m apart same = same ∙ sym (at_other old n bytes m apart)

    pub one_written : IsRunWritten old n bytes new → new ≡ with_sector old n bytes
    one_written written = λ i m. each m i
      where
        here : new n ≡ bytes
        here = sym (one_read new written.inside)

        outside : (m : ℕ) → m ≢ n → IsOutsideRun n (sector_count bytes) m
        outside m apart = elim (cases_lt m n) [
          | inl below ↦ inl below
          | inr above ↦ inr (omega (arith, above, apart, one_part bytes whole))
        ]

        each : (m : ℕ) → new m ≡ with_sector old n bytes m
        each m = elim (cases_eq m n) [
          | inl same ↦ ap new same ∙ here ∙ sym (at_same old n bytes m same)
          | inr apart ↦ other m apart (written.outside m (outside m apart))
        ]

    pub one_failed : IsRunPartlyWritten old n bytes new → IsWrittenOrNot old n bytes new
    one_failed partly =
        ⊎_elim (λ same. inl (λ i m. unchanged same m i))
        (λ part. inr (λ i m. changed (is_all n (new n) part).1 m i)) (partly n)
      where
        stays : (m : ℕ) → m ≢ n → new m ≡ old m
        stays m apart = ⊎_elim (λ same. same)
            (λ part. absurd (apart (is_all m (new m) part).0)) (partly m)

        unchanged : new n ≡ old n → (m : ℕ) → new m ≡ old m
        unchanged here m = elim (cases_eq m n) [
          | inl same ↦ ap new same ∙ here ∙ ap old (sym same)
          | inr apart ↦ stays m apart
        ]

        changed : new n ≡ bytes → (m : ℕ) → new m ≡ with_sector old n bytes m
        changed here m = elim (cases_eq m n) [
          | inl same ↦ ap new same ∙ here ∙ sym (at_same old n bytes m same)
          | inr apart ↦ other m apart (stays m apart)
        ]
