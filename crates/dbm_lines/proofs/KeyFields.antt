-- The field of a key at the head of a line.
use Rattle.std.proofs.Common.{◌≡◌, ◌==◌, inl, inr, ℕ, suc, ◌<◌, Bool, true, false, cond, ◌&&◌, List, [], ◌∷◌, ◌++◌, Some, codes, refl, ◌∙◌, ap, append_assoc, arith, nat_le}
use Rattle.std.specs.Prelude.{slice_index}
use Rattle.std.specs.List.{All}
use Rattle.std.proofs.lemmas.Bool.Decides.{eqb_tells}
use Rattle.std.proofs.lemmas.List.Elements.{All-append, All-nil}
use Rattle.hex.specs.Hex.{encode_lower}
use Rattle.dbm_lines.specs.Escapes.{escape_of, escaped, is_passed_over, joined, key_field, marked, unescaped}
use Rattle.dbm_lines.specs.EscapeTexts.{IsPrintable, KeyFieldLaws}
use Rattle.dbm_lines.proofs.EscapeLemmas.{digits_printable, digits_read, escapes_back, printable, two_printable}

marked_back : (bytes : List ℕ) → ((i : ℕ) → slice_index bytes i < 256)
    → unescaped (marked bytes) ≡ Some bytes
marked_back [] small = refl
marked_back (byte ∷ bytes) small =
    digits_read byte (escaped bytes) (small 0)
    ∙ ap (joined (Some (byte ∷ []))) (escapes_back bytes (λ i. small (suc i)))

marked_printable : (bytes : List ℕ) → ((i : ℕ) → slice_index bytes i < 256)
    → All IsPrintable (marked bytes)
marked_printable [] small = All-nil IsPrintable
marked_printable (byte ∷ bytes) small =
    All-append IsPrintable (codes "\\x") (encode_lower (byte ∷ []) ++ escaped bytes)
    (two_printable 92 120 (omega arith, omega arith) (omega arith, omega arith))
    (All-append IsPrintable (encode_lower (byte ∷ [])) (escaped bytes)
    (digits_printable byte (small 0)) (printable bytes (λ i. small (suc i))))

-- it is one of two fields
either_field : (P : List ℕ → Type 0) (key : List ℕ) → P (marked key) → P (escaped key)
    → P (key_field key)
either_field P [] first second = first
either_field P (byte ∷ rest) first second = by_head (byte == 35) first second
  where
    by_head : (b : Bool) → P (marked (byte ∷ rest)) → P (escaped (byte ∷ rest))
        → P (cond b (marked (byte ∷ rest)) (escaped (byte ∷ rest)))
    by_head true first second = first
    by_head false first second = second

pub key_back : (key : List ℕ) → ((i : ℕ) → slice_index key i < 256)
    → unescaped (key_field key) ≡ Some key
key_back key small =
    either_field (λ field. unescaped field ≡ Some key) key (marked_back key small)
    (escapes_back key small)

pub key_printable : (key : List ℕ) → ((i : ℕ) → slice_index key i < 256)
    → All IsPrintable (key_field key)
key_printable key small =
    either_field (All IsPrintable) key (marked_printable key small) (printable key small)

-- another byte than `#` begins no line that is passed over
other_head : (byte : ℕ) (rest : List ℕ) → (byte == 35) ≡ false
    → is_passed_over (escape_of byte ++ rest) ≡ false
other_head byte rest other = by_kind (byte == 92) (byte == 9) (byte == 10)
    (nat_le 32 byte && nat_le byte 126)
  where
    by_kind : (backslash tab feed plain : Bool) → is_passed_over (cond backslash (codes "\\\\")
        (cond tab (codes "\\t") (cond feed (codes "\\n") (cond plain (byte ∷ [])
        (codes "\\x" ++ encode_lower (byte ∷ []))))) ++ rest) ≡ false
    by_kind true tab feed plain = refl
    by_kind false true feed plain = refl
    by_kind false false true plain = refl
    by_kind false false false true = other
    by_kind false false false false = refl

pub is_read : (key content : List ℕ) → is_passed_over (key_field key ++ 9 ∷ content) ≡ false
is_read [] content = refl
is_read (byte ∷ rest) content = elim (eqb_tells byte 35) [
  | inl same ↦ rw (same.0) refl
  | inr other ↦ rw (other.0) (ap is_passed_over
      (append_assoc (escape_of byte) (escaped rest) (9 ∷ content))
      ∙ other_head byte (escaped rest ++ 9 ∷ content) other.0)
]

pub key_field_laws : KeyFieldLaws
key_field_laws = record {
  read_back = key_back;
  printable = key_printable;
  read = is_read;
}
