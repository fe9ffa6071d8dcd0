-- A field stands for the bytes that it was made of, and is printable.
use Rattle.std.proofs.Common.{◌≡◌, ◌==◌, ℕ, zero, suc, ◌<◌, inl, inr, List, [], ◌∷◌, ◌++◌, length, Bool, true, false, cond, ◌&&◌, Option, Some, None, codes, refl, ◌∙◌, ap, arith, nat_le}
use Rattle.std.specs.Prelude.{slice_index}
use Rattle.std.specs.List.{All}
use Rattle.std.specs.Result.{result_ok}
use Rattle.std.proofs.lemmas.Bool.{le-leb, lt-leb}
use Rattle.std.proofs.lemmas.Bool.Decides.{eqb_tells, leb_tells, nat_tests}
use Rattle.std.proofs.lemmas.List.Elements.{All-append, All-cons, All-nil}
use Rattle.hex.specs.Hex.{encode_with, encode_lower, is_hex_digit}
use Rattle.hex.proofs.HexLemmas.{decode_of-encode_lower, decode_of-ok}
use Rattle.dbm_model.specs.Pairs.{Pair}
use Rattle.dbm_lines.specs.Escapes.{escape_of, escaped, unescaped, behind_backslash, joined, pair_of_fields, fields_in, longest_text_line}
use Rattle.dbm_lines.specs.EscapeTexts.{IsPrintable, LongTextLines}

abbrev is_plain : ℕ → Bool
is_plain byte = nat_le 32 byte && nat_le byte 126

one_byte : (byte : ℕ) → byte < 256 → (i : ℕ) → slice_index (byte ∷ []) i < 256
one_byte byte small zero = small
one_byte byte small (suc i) = omega arith

-- one byte behind a backslash and `x`
pub digits_read : (byte : ℕ) (rest : List ℕ) → byte < 256
    → unescaped ((codes "\\x" ++ encode_lower (byte ∷ [])) ++ rest)
    ≡ joined (Some (byte ∷ [])) (unescaped rest)
unfolding encode_with
digits_read byte rest small =
    ap (λ o. joined (result_ok o) (unescaped rest))
    (decode_of-encode_lower (byte ∷ []) (one_byte byte small))

one_read : (byte : ℕ) (rest : List ℕ) → byte < 256
    → unescaped (escape_of byte ++ rest) ≡ joined (Some (byte ∷ [])) (unescaped rest)
one_read byte rest small = elim (eqb_tells byte 92) [
  | inl same ↦ rw (same.1) refl
  | inr other ↦ elim (eqb_tells byte 9) [
    | inl same ↦ rw (same.1) refl
    | inr tab ↦ elim (eqb_tells byte 10) [
      | inl same ↦ rw (same.1) refl
      | inr feed ↦ rw (other.0, tab.0, feed.0) (by_kind (is_plain byte) other.0)
    ]
  ]
]
  where
    by_kind : (plain : Bool) → (byte == 92) ≡ false
        → unescaped (cond plain (byte ∷ []) (codes "\\x" ++ encode_lower (byte ∷ [])) ++ rest)
        ≡ joined (Some (byte ∷ [])) (unescaped rest)
    by_kind true other = ap (λ b. cond b (behind_backslash rest)
        (joined (Some (byte ∷ [])) (unescaped rest))) other
    by_kind false other = digits_read byte rest small

pub escapes_back : (bytes : List ℕ) → ((i : ℕ) → slice_index bytes i < 256)
    → unescaped (escaped bytes) ≡ Some bytes
escapes_back [] small = refl
escapes_back (byte ∷ bytes) small =
    one_read byte (escaped bytes) (small 0)
    ∙ ap (joined (Some (byte ∷ []))) (escapes_back bytes (λ i. small (suc i)))

printable_digit : (x : ℕ) → is_hex_digit x ≡ true → IsPrintable x
printable_digit x digit = grind (arith, nat_tests)

pub two_printable : (x y : ℕ) → IsPrintable x → IsPrintable y → All IsPrintable (x ∷ y ∷ [])
two_printable x y first second =
    All-cons IsPrintable x (y ∷ []) first (All-cons IsPrintable y [] second (All-nil IsPrintable))

either_printable : (b : Bool) (xs ys : List ℕ) → All IsPrintable xs → All IsPrintable ys
    → All IsPrintable (cond b xs ys)
either_printable true xs ys first second = first
either_printable false xs ys first second = second

plain_printable : (byte : ℕ) (other : List ℕ) → All IsPrintable other
    → All IsPrintable (cond (is_plain byte) (byte ∷ []) other)
plain_printable byte other h = elim (leb_tells 32 byte) [
  | inl low ↦ elim (leb_tells byte 126) [
    | inl high ↦ rw (low.0, high.0)
        (All-cons IsPrintable byte [] (low.1, high.1) (All-nil IsPrintable))
    | inr over ↦ rw (low.0, over.0) h
  ]
  | inr under ↦ rw (under.0) h
]

pub digits_printable : (byte : ℕ) → byte < 256 → All IsPrintable (encode_lower (byte ∷ []))
digits_printable byte small =
    let digits = (decode_of-ok (encode_lower (byte ∷ [])) (byte ∷ [])
    (decode_of-encode_lower (byte ∷ []) (one_byte byte small))).1 in
    λ k d lt. printable_digit _ (digits k d lt)

one_printable : (byte : ℕ) → byte < 256 → All IsPrintable (escape_of byte)
one_printable byte small =
    either_printable (byte == 92) _ _ (two_printable 92 92 (omega arith, omega arith)
    (omega arith, omega arith))
    (either_printable (byte == 9) _ _ (two_printable 92 116 (omega arith, omega arith)
    (omega arith, omega arith))
    (either_printable (byte == 10) _ _ (two_printable 92 110 (omega arith, omega arith)
    (omega arith, omega arith))
    (plain_printable byte _ (All-append IsPrintable (codes "\\x") (encode_lower (byte ∷ []))
    (two_printable 92 120 (omega arith, omega arith) (omega arith, omega arith))
    (digits_printable byte small)))))

pub printable : (bytes : List ℕ) → ((i : ℕ) → slice_index bytes i < 256)
    → All IsPrintable (escaped bytes)
printable [] small = All-nil IsPrintable
printable (byte ∷ bytes) small =
    All-append IsPrintable (escape_of byte) (escaped bytes) (one_printable byte (small 0))
    (printable bytes (λ i. small (suc i)))

pub long_text_lines : LongTextLines
long_text_lines = record {
  longest = λ line le. ap (λ b. cond {A = Option Pair} b None (pair_of_fields (fields_in line)))
      (lt-leb (suc longest_text_line) (length line) (omega (arith, le)));
  longer = λ line lt. ap (λ b. cond {A = Option Pair} b None (pair_of_fields (fields_in line)))
      (le-leb (suc longest_text_line) (length line) (omega (arith, lt)));
}
