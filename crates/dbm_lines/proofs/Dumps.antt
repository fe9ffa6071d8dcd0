-- The lines of a dump are no longer than they may be, and say its pairs.
use Rattle.std.proofs.Common.{◌≡◌, inl, inr, ⊎_elim, ℕ, suc, ◌+◌, ◌*◌, ◌≤◌, ◌==◌, ◌&&◌, nat_lt, nat_le, Bool, true, false, cond, List, [], ◌∷◌, length, map, Option, Some, None, refl, ap, ◌∙◌, arith, append_assoc, length-append}
use Rattle.std.specs.List.{All, flat_map}
use Rattle.std.proofs.lemmas.Bool.{leb-true, or_cases, and_parts}
use Rattle.std.proofs.lemmas.Bool.Decides.{leb_tells}
use Rattle.std.proofs.lemmas.List.Elements.{All-head, All-tail}
use Rattle.hex.specs.Hex.{encode_lower, lower_digits}
use Rattle.hex.proofs.HexLemmas.{length-encode_with}
use Rattle.page_model.specs.PairLists.{HasBytes}
use Rattle.dbm_model.specs.Bounds.{V2}
use Rattle.dbm_model.specs.Pairs.{Pair, IsAllowed}
use Rattle.dbm_lines.specs.Escapes.{escape_of, escaped, key_field, marked, longest_text_line, pair_of_text_line}
use Rattle.dbm_lines.specs.Lines.{lines_of, with_line_feed, longest_line}
use Rattle.dbm_lines.specs.Words.{word_of}
use Rattle.dbm_lines.specs.LineLaws.{DumpsReadBack}
use Rattle.dbm_lines.specs.PairLines.{pair_of_line, Say}
use Rattle.dbm_lines.specs.declared.forms.TextForm.TheVariants.{Hexadecimal, Escaped}
use Rattle.dbm_lines.proofs.PairLines.{IsWithout, lines_after, words, words_without, words_stand, fields, fields_without, fields_stand}

-- ---- lengths

word_length : (bytes : List ℕ) → length (word_of bytes) ≤ 2 * length bytes + 1
word_length [] = omega arith
word_length (x ∷ xs) = omega (arith, length-encode_with lower_digits (x ∷ xs))

either : (b : Bool) (xs ys : List ℕ) (n : ℕ) → length xs ≤ n → length ys ≤ n
    → length (cond b xs ys) ≤ n
either true xs ys n first second = first
either false xs ys n first second = second

escape_length : (byte : ℕ) → length (escape_of byte) ≤ 4
escape_length byte =
    let digits = length-encode_with lower_digits (byte ∷ []) in
    either (byte == 92) _ _ 4 (omega arith) (either (byte == 9) _ _ 4 (omega arith)
    (either (byte == 10) _ _ 4 (omega arith) (either (nat_le 32 byte && nat_le byte 126) _ _ 4
    (omega arith) (omega (arith, digits)))))

field_length : (bytes : List ℕ) → length (escaped bytes) ≤ 4 * length bytes
field_length [] = omega arith
field_length (x ∷ xs) = omega (
  arith,
  length-append (escape_of x) (escaped xs),
  escape_length x,
  field_length xs,
)

-- a pair that a file may have
allowed_length : (pair : Pair) → IsAllowed V2 pair → length pair.0 + length pair.1 ≤ 66558
allowed_length pair allowed =
    let near : Bool = nat_le (length pair.0 + length pair.1) 2026 in
    let short : Bool = nat_le (length pair.0) 1023 in
    let few : Bool = nat_le (length pair.1) 65535 in
    ⊎_elim
    (λ is. omega (arith, leb-true (length pair.0 + length pair.1) 2026 is))
    (λ is. let both = and_parts short few is in
    omega (arith, leb-true (length pair.0) 1023 both.0, leb-true (length pair.1) 65535 both.1))
    (or_cases near (short && few) allowed)

within : {A : Type 0} (limit size : ℕ) (said : Option A) → size ≤ limit
    → cond (nat_lt limit size) None said ≡ said
within limit size said le = elim (leb_tells (suc limit) size) [
  | inl w ↦ absurd (omega (arith, le, w.1))
  | inr w ↦ rw w.0 refl
]

words_say : (pair : Pair) → HasBytes pair → IsAllowed V2 pair
    → pair_of_line (words pair) ≡ Some pair
words_say pair small allowed =
    within longest_line (length (words pair)) _
    (omega (
      arith,
      length-append (word_of pair.0) (32 ∷ word_of pair.1),
      word_length pair.0,
      word_length pair.1,
      allowed_length pair allowed,
    ))
    ∙ words_stand pair small

key_length : (key : List ℕ) → length (key_field key) ≤ 4 * length key
key_length [] = omega arith
key_length (x ∷ xs) =
    let digits = length-encode_with lower_digits (x ∷ []) in
    either (x == 35) (marked (x ∷ xs)) (escaped (x ∷ xs)) (4 * length (x ∷ xs))
    (omega (
      arith,
      digits,
      length-append (encode_lower (x ∷ [])) (escaped xs),
      field_length xs,
    )) (field_length (x ∷ xs))

fields_say : (pair : Pair) → HasBytes pair → IsAllowed V2 pair
    → pair_of_text_line (fields pair) ≡ Some pair
fields_say pair small allowed =
    within longest_text_line (length (fields pair)) _
    (omega (
      arith,
      length-append (key_field pair.0) (9 ∷ escaped pair.1),
      key_length pair.0,
      field_length pair.1,
      allowed_length pair allowed,
    ))
    ∙ fields_stand pair small

-- ---- lines of either form

module _ (pair_of : List ℕ → Option Pair) (body : Pair → List ℕ)
    (plain : (pair : Pair) → HasBytes pair → IsWithout 10 (body pair))
    (says : (pair : Pair) → HasBytes pair → IsAllowed V2 pair → pair_of (body pair) ≡ Some pair)
  where
    bodies_say : (pairs : List Pair) → All HasBytes pairs → All (IsAllowed V2) pairs
        → Say pair_of (lines_of (flat_map (λ pair. with_line_feed (body pair)) pairs)) pairs
    bodies_say [] small allowed = refl
    bodies_say (pair ∷ pairs) small allowed =
        let one = All-head HasBytes pair pairs small in
        let rest = flat_map (λ pair. with_line_feed (body pair)) pairs in
        let cut : lines_of (flat_map (λ pair. with_line_feed (body pair)) (pair ∷ pairs))
        ≡ body pair ∷ lines_of rest =
        ap lines_of (append_assoc (body pair) (10 ∷ []) rest)
        ∙ lines_after (body pair) rest (plain pair one) in
        let head = says pair one (All-head (IsAllowed V2) pair pairs allowed) in
        let tail = bodies_say pairs (All-tail HasBytes pair pairs small)
        (All-tail (IsAllowed V2) pair pairs allowed) in
        ap (map pair_of) cut ∙ (λ i. head i ∷ tail i)

pub dumps_say : DumpsReadBack
dumps_say Hexadecimal pairs small allowed =
    bodies_say pair_of_line words words_without words_say pairs small allowed
dumps_say Escaped pairs small allowed =
    bodies_say pair_of_text_line fields fields_without fields_say pairs small allowed
