-- Fields that are read up to each backslash.
use Rattle.std.proofs.Common.{◌≡◌, ◌==◌, ℕ, zero, suc, ◌+◌, ◌-◌, ◌<◌, ◌≤◌, true, false, not, cond, List, [], ◌∷◌, ◌++◌, length, take, drop, get_or, Option, Some, None, refl, sym, ap, ◌∙◌, arith, length-drop}
use Rattle.std.proofs.lemmas.List.Quantifiers.{position-Some}
use Rattle.std.proofs.lemmas.List.{length-take-le, take_all}
use Rattle.std.specs.List.{position, position_or_len}
use Rattle.dbm_lines.specs.Escapes.{behind_backslash, joined, unescaped}
use Rattle.dbm_lines.proofs.FieldBytes.{behind_both, nothing_before}
use Rattle.dbm_lines.proofs.Splits.{past_all}

-- what begins with no backslash
plain_byte : (byte : ℕ) (field : List ℕ) → (byte == 92) ≡ false
    → unescaped (byte ∷ field) ≡ joined (Some (byte ∷ [])) (unescaped field)
plain_byte byte field plain =
    ap (λ b. cond b (behind_backslash field) (joined (Some (byte ∷ [])) (unescaped field))) plain

plain_front : (field : List ℕ) (i : ℕ) → i < length field → (get_or field i 0 == 92) ≡ true
    → ((k : ℕ) → k < i → (get_or field k 0 == 92) ≡ false)
    → unescaped field ≡ joined (Some (take i field)) (behind_backslash (drop (suc i) field))
plain_front [] i within at before = absurd (omega (arith, within))
plain_front (byte ∷ field) zero within at before =
    ap (λ b. cond b (behind_backslash field) (joined (Some (byte ∷ [])) (unescaped field))) at
    ∙ nothing_before (behind_backslash field)
plain_front (byte ∷ field) (suc i) within at before =
    plain_byte byte field (before 0 (omega arith))
    ∙ ap (joined (Some (byte ∷ [])))
    (plain_front field i (omega (arith, within)) at (λ k lt. before (suc k) (omega (arith, lt))))
    ∙ behind_both (byte ∷ []) (take i field) (behind_backslash (drop (suc i) field))

all_plain : (field : List ℕ) → length field ≤ position_or_len (λ byte. byte == 92) field
    → unescaped field ≡ Some field
all_plain [] plain = refl
all_plain (byte ∷ field) plain = (elim (byte == 92) as
    (λ b. (suc (length field) ≤ cond (not b) (1 + position_or_len (λ byte. byte == 92) field) 0)
    → cond b (behind_backslash field) (joined (Some (byte ∷ [])) (unescaped field))
    ≡ Some (byte ∷ field)) [
      | true ↦ λ h. absurd (omega (arith, h))
      | false ↦ λ h. ap (joined (Some (byte ∷ []))) (all_plain field (omega (arith, h)))
    ]) plain

-- ---- a field up to its first backslash

-- what is behind the byte at i
abbrev pub behind_at : ℕ → List ℕ → List ℕ
behind_at i field = take (length field - (i + 1)) (drop (i + 1) field)

module _ (field : List ℕ) (i : ℕ) (first : Some i ≡ position (λ byte. byte == 92) field) where
  found : (i < length field) × ((get_or field i 0 == 92) ≡ true)
      × ((k : ℕ) → k < i → (get_or field k 0 == 92) ≡ false)
  found = position-Some (λ byte. byte == 92) field i 0 (sym first)

  pub lengths : (length (take i field) ≡ i) × (i + 1 + length (behind_at i field) ≡ length field)
  lengths =
      let within : i < length field = found.0 in (
        length-take-le i field (omega (arith, within)),
        omega (
          arith,
          within,
          length-drop (i + 1) field,
          length-take-le (length field - (i + 1)) (drop (i + 1) field)
              (omega (arith, length-drop (i + 1) field)),
        ),
      )

  up_to : unescaped field ≡ joined (Some (take i field)) (behind_backslash (behind_at i field))
  up_to =
      let next : suc i ≡ i + 1 = omega arith in
      plain_front field i found.0 found.1 found.2
      ∙ ap (λ n. joined (Some (take i field)) (behind_backslash (drop n field))) next
      ∙ ap (λ l. joined (Some (take i field)) (behind_backslash l))
      (sym (take_all (length field - (i + 1)) (drop (i + 1) field)
      (omega (arith, length-drop (i + 1) field))))

module _ (whole : Option (List ℕ)) (front field : List ℕ)
    (so_far : whole ≡ joined (Some front) (unescaped field)) where
  -- the bytes before a backslash are read
  pub read_plain : (i : ℕ) → Some i ≡ position (λ byte. byte == 92) field
      → whole ≡ joined (Some (front ++ take i field)) (behind_backslash (behind_at i field))
  read_plain i first =
      so_far ∙ ap (joined (Some front)) (up_to field i first)
      ∙ behind_both front (take i field) (behind_backslash (behind_at i field))

  pub read_refused : (i : ℕ) → Some i ≡ position (λ byte. byte == 92) field
      → behind_backslash (behind_at i field) ≡ None → None ≡ whole
  read_refused i first none =
      sym (read_plain i first ∙ ap (joined (Some (front ++ take i field))) none)

  pub read_rest : None ≡ position (λ byte. byte == 92) field → Some (front ++ field) ≡ whole
  read_rest none =
      sym (so_far ∙ ap (joined (Some front))
      (all_plain field (past_all (λ byte. byte == 92) field none)))
