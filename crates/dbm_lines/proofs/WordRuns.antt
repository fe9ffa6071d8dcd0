-- A word that is written in runs.
use Rattle.std.proofs.Common.{◌≡◌, ℕ, ◌<◌, List, [], ◌∷◌, ◌++◌, length, Option, Some, None, refl, sym, ap, subst, ◌∙◌, arith, append-nil, append_assoc}
use Rattle.std.specs.Io.KnownBytes.{Appends}
use Rattle.hex.specs.Hex.{encode_with, encode_lower}
use Rattle.dbm_lines.specs.Words.{word_of}
use Rattle.dbm_lines.proofs.FieldBytes.{appends_on}

pub encode-append : (digits xs ys : List ℕ)
    → encode_with digits (xs ++ ys) ≡ encode_with digits xs ++ encode_with digits ys
unfolding encode_with
encode-append digits [] ys = refl
encode-append digits (x ∷ xs) ys = rw (encode-append digits xs ys) refl

-- of these bytes the digits are written but for those of the rest
abbrev pub IsWritten : Option (List ℕ) → Option (List ℕ) → List ℕ → List ℕ → Type 0
IsWritten before now bytes rest =
    (done : List ℕ) × (bytes ≡ done ++ rest) × Appends before now (encode_lower done)

nothing_appended : (first : Option (List ℕ)) → Appends first first []
nothing_appended None = tt
nothing_appended (Some text) = sym (append-nil text)

pub none_written : (first : Option (List ℕ)) (bytes : List ℕ) → IsWritten first first bytes bytes
unfolding encode_with
none_written first bytes = ([], refl, nothing_appended first)

-- a run more is written
pub run_more : (first now next : Option (List ℕ)) (bytes rest run behind : List ℕ)
    → IsWritten first now bytes rest → rest ≡ run ++ behind → Appends now next (encode_lower run)
    → IsWritten first next bytes behind
run_more first now next bytes rest run behind (done, split, written) cut more = (
  done ++ run,
  split ∙ ap (λ (l : List ℕ). done ++ l) cut ∙ sym (append_assoc done run behind),
  subst (Appends first next) (sym (encode-append _ done run))
      (appends_on first now next _ _ written more),
)

word_of_some : (bytes : List ℕ) → 0 < length bytes → word_of bytes ≡ encode_lower bytes
word_of_some [] some = absurd (omega (arith, some))
word_of_some (x ∷ xs) some = refl

-- all of them are written
pub all_written : (first now : Option (List ℕ)) (bytes rest : List ℕ) → 0 < length bytes
    → IsWritten first now bytes rest → length rest ≡ 0 → Appends first now (word_of bytes)
all_written first now bytes [] some (done, split, written) none =
    subst (Appends first now) (ap encode_lower (sym (split ∙ append-nil done))
    ∙ sym (word_of_some bytes some)) written
all_written first now bytes (x ∷ rest) some (done, split, written) none =
    absurd (omega (arith, none))
