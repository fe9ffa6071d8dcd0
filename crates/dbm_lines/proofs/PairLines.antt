-- What the lines of a dump say.
use Rattle.std.proofs.Common.{◌≡◌, inl, inr, ℕ, ◌==◌, nat_lt, Bool, true, false, cond, List, [], ◌∷◌, ◌++◌, length, map, Option, Some, None, refl, sym, ap, ◌∙◌, append_assoc, ◌<◌, get_or, arith}
use Rattle.std.specs.List.{All, flat_map, slice_split}
use Rattle.std.specs.Option.{option_map}
use Rattle.std.specs.Prelude.{option_and_then}
use Rattle.std.proofs.lemmas.Bool.Decides.{eqb_tells}
use Rattle.std.proofs.lemmas.List.Elements.{All-append, All-cons, All-head, All-nil, All-tail}
use Rattle.std.proofs.lemmas.List.Splits.{slice_split_at, slice_split_none}
use Rattle.hex.specs.Hex.{encode_lower, is_hex_digit}
use Rattle.hex.proofs.HexLemmas.{decode_of-ok, decode_of-encode_lower}
use Rattle.dbm_lines.specs.Escapes.{escaped, key_field, unescaped, fields_in, pair_of_fields, longest_text_line, pair_of_text_line}
use Rattle.dbm_lines.specs.Lines.{lines_of, onto_line, words_in, with_line_feed, longest_line}
use Rattle.page_model.specs.PairLists.{AreBytes, HasBytes}
use Rattle.dbm_model.specs.Pairs.{Pair}
use Rattle.dbm_lines.specs.Words.{word_of, word_bytes}
use Rattle.dbm_lines.specs.EscapeTexts.{IsPrintable}
use Rattle.dbm_lines.proofs.EscapeLemmas.{escapes_back, printable}
use Rattle.dbm_lines.proofs.KeyFields.{is_read, key_back, key_printable}
use Rattle.dbm_lines.proofs.WordLemmas.{reads_back}
use Rattle.dbm_lines.specs.Forms.{pair_in, is_passed_in, line_in, lines_said}
use Rattle.dbm_lines.specs.declared.forms.TextForm.{TextForm}
use Rattle.dbm_lines.specs.declared.forms.TextForm.TheVariants.{Hexadecimal, Escaped}
use Rattle.dbm_lines.specs.PairLines.{pair_of_words, pair_of_line, Say}

-- the byte is nowhere among these
abbrev pub IsWithout : ℕ → List ℕ → Type 0
IsWithout byte bytes = All (λ x. (x == byte) ≡ false) bytes

no_digit : (byte x : ℕ) → is_hex_digit byte ≡ false → is_hex_digit x ≡ true → (x == byte) ≡ false
no_digit byte x other digit = elim (eqb_tells x byte) [
  | inl same ↦ absurd (let e : true ≡ false = sym digit ∙ ap is_hex_digit same.1 ∙ other in cc)
  | inr differs ↦ differs.0
]

-- a word has neither line feeds nor spaces
word_without : (byte : ℕ) → is_hex_digit byte ≡ false → (46 == byte) ≡ false → (bytes : List ℕ)
    → AreBytes bytes → IsWithout byte (word_of bytes)
word_without byte other dot [] small =
    All-cons (λ x. (x == byte) ≡ false) 46 [] dot (All-nil (λ x. (x == byte) ≡ false))
word_without byte other dot (b ∷ bytes) small =
    let digits = (decode_of-ok (encode_lower (b ∷ bytes)) (b ∷ bytes)
    (decode_of-encode_lower (b ∷ bytes) small)).1 in
    λ k d lt. no_digit byte _ other (digits k d lt)

-- the line up to a line feed
pub lines_after : (line text : List ℕ) → IsWithout 10 line
    → lines_of (line ++ 10 ∷ text) ≡ line ∷ lines_of text
lines_after [] text plain = refl
lines_after (x ∷ line) text plain =
    ap (λ b. cond b ([] ∷ lines_of (line ++ 10 ∷ text))
    (onto_line x (lines_of (line ++ 10 ∷ text))))
    (All-head (λ x. (x == 10) ≡ false) x line plain)
    ∙ ap (onto_line x) (lines_after line text (All-tail (λ x. (x == 10) ≡ false) x line plain))

-- two parts, with a byte between them that is no line feed
parts_without : (first second : List ℕ) (byte : ℕ) → (byte == 10) ≡ false
    → IsWithout 10 first → IsWithout 10 second → IsWithout 10 (first ++ byte ∷ second)
parts_without first second byte other before behind =
    All-append (λ x. (x == 10) ≡ false) first (byte ∷ second) before
    (All-cons (λ x. (x == 10) ≡ false) byte second other behind)

parts_apart : (first second : List ℕ) (byte : ℕ) → (byte == byte) ≡ true
    → IsWithout byte first → IsWithout byte second
    → slice_split (λ x. x == byte) (first ++ byte ∷ second) ≡ first ∷ second ∷ []
parts_apart first second byte same before behind =
    slice_split_at (λ x. x == byte) first byte second before same
    ∙ ap (λ parts. first ∷ parts) (slice_split_none (λ x. x == byte) second behind)

-- what says a pair is no longer than the limit
unlimited : {A : Type 0} (b : Bool) (said : Option A) (x : A) → cond b None said ≡ Some x
    → said ≡ Some x
unlimited true said x e = cc
unlimited false said x e = e

two_parts : (bytes_of : List ℕ → Option (List ℕ)) (key content first second : List ℕ)
    → bytes_of first ≡ Some key → bytes_of second ≡ Some content
    → option_and_then {U = Pair} (λ k. option_map (λ c. (k, c)) (bytes_of second)) (bytes_of first)
    ≡ Some (key, content)
two_parts bytes_of key content first second k c =
    ap (λ (o : Option (List ℕ)). option_and_then
    (λ key. option_map (λ content. (key, content)) (bytes_of second)) o) k
    ∙ ap (option_map (λ content. (key, content))) c

seen_some : {A : Type 0} (x y : A) → Some x ≡ Some y → x ≡ y
seen_some x y e = cc

-- ---- lines of words

abbrev pub words : Pair → List ℕ
words pair = word_of pair.0 ++ 32 ∷ word_of pair.1

pub words_without : (pair : Pair) → HasBytes pair → IsWithout 10 (words pair)
words_without pair small =
    parts_without (word_of pair.0) (word_of pair.1) 32 refl
    (word_without 10 refl refl pair.0 small.0) (word_without 10 refl refl pair.1 small.1)

pub words_stand : (pair : Pair) → HasBytes pair → pair_of_words (words_in (words pair)) ≡ Some pair
words_stand pair small =
    ap pair_of_words (parts_apart (word_of pair.0) (word_of pair.1) 32 refl
    (word_without 32 refl refl pair.0 small.0) (word_without 32 refl refl pair.1 small.1))
    ∙ two_parts word_bytes pair.0 pair.1 (word_of pair.0) (word_of pair.1)
    (reads_back pair.0 small.0) (reads_back pair.1 small.1)

words_say : (pair said : Pair) → HasBytes pair → pair_of_line (words pair) ≡ Some said
    → said ≡ pair
words_say pair said small is =
    seen_some said pair (sym (unlimited (nat_lt longest_line (length (words pair)))
    (pair_of_words (words_in (words pair))) said is) ∙ words_stand pair small)

-- ---- lines of fields

-- a field has printable bytes alone
field_without : (byte : ℕ) → byte < 32 → (field : List ℕ) → All IsPrintable field
    → IsWithout byte field
field_without byte low field is k d lt = elim (eqb_tells (get_or field k d) byte) [
  | inl same ↦ absurd (omega (arith, (is k d lt).0, same.1, low))
  | inr other ↦ other.0
]

abbrev pub fields : Pair → List ℕ
fields pair = key_field pair.0 ++ 9 ∷ escaped pair.1

pub fields_without : (pair : Pair) → HasBytes pair → IsWithout 10 (fields pair)
fields_without pair small =
    parts_without (key_field pair.0) (escaped pair.1) 9 refl
    (field_without 10 (omega arith) (key_field pair.0) (key_printable pair.0 small.0))
    (field_without 10 (omega arith) (escaped pair.1) (printable pair.1 small.1))

pub fields_stand : (pair : Pair) → HasBytes pair
    → pair_of_fields (fields_in (fields pair)) ≡ Some pair
fields_stand pair small =
    ap pair_of_fields (parts_apart (key_field pair.0) (escaped pair.1) 9 refl
    (field_without 9 (omega arith) (key_field pair.0) (key_printable pair.0 small.0))
    (field_without 9 (omega arith) (escaped pair.1) (printable pair.1 small.1)))
    ∙ two_parts unescaped pair.0 pair.1 (key_field pair.0) (escaped pair.1)
    (key_back pair.0 small.0) (escapes_back pair.1 small.1)

fields_say : (pair said : Pair) → HasBytes pair → pair_of_text_line (fields pair) ≡ Some said
    → said ≡ pair
fields_say pair said small is =
    seen_some said pair (sym (unlimited (nat_lt longest_text_line (length (fields pair)))
    (pair_of_fields (fields_in (fields pair))) said is) ∙ fields_stand pair small)

-- ---- lines of either form

module _ (pair_of : List ℕ → Option Pair) (body : Pair → List ℕ)
    (plain : (pair : Pair) → HasBytes pair → IsWithout 10 (body pair))
    (one_says : (pair said : Pair) → HasBytes pair → pair_of (body pair) ≡ Some said
    → said ≡ pair) where
  first_says : (line : List ℕ) (lines : List (List ℕ)) (pair : Pair) (pairs said : List Pair)
      → ((first : Pair) → pair_of line ≡ Some first → first ≡ pair)
      → ((later : List Pair) → Say pair_of lines later → later ≡ pairs)
      → Say pair_of (line ∷ lines) said → said ≡ pair ∷ pairs
  first_says line lines pair pairs [] one rest is = cc
  first_says line lines pair pairs (first ∷ said) one rest is =
      let head : pair_of line ≡ Some first = cc in
      let tail : map pair_of lines ≡ map Some said = cc in
      λ i. one first head i ∷ rest said tail i

  bodies_say : (pairs said : List Pair) → All HasBytes pairs
      → Say pair_of (lines_of (flat_map (λ pair. with_line_feed (body pair)) pairs)) said
      → said ≡ pairs
  bodies_say [] [] small is = refl
  bodies_say [] (other ∷ said) small is = cc
  bodies_say (pair ∷ pairs) said small is =
      let one = All-head HasBytes pair pairs small in
      let rest = flat_map (λ pair. with_line_feed (body pair)) pairs in
      let cut : lines_of (flat_map (λ pair. with_line_feed (body pair)) (pair ∷ pairs))
      ≡ body pair ∷ lines_of rest =
      ap lines_of (append_assoc (body pair) (10 ∷ []) rest)
      ∙ lines_after (body pair) rest (plain pair one) in
      first_says (body pair) (lines_of rest) pair pairs said
      (λ first is. one_says pair first one is)
      (λ later is. bodies_say pairs later (All-tail HasBytes pair pairs small) is)
      (sym (ap (map pair_of) cut) ∙ is)

-- where the lines of pairs say pairs, they are the same
pub lines_say : (form : TextForm) (pairs said : List Pair) → All HasBytes pairs
    → Say (pair_in form) (lines_of (flat_map (line_in form) pairs)) said → said ≡ pairs
lines_say Hexadecimal pairs said small is =
    bodies_say pair_of_line words words_without words_say pairs said small is
lines_say Escaped pairs said small is =
    bodies_say pair_of_text_line fields fields_without fields_say pairs said small is

-- ---- none of them is passed over

module _ (form : TextForm) (body : Pair → List ℕ)
    (plain : (pair : Pair) → HasBytes pair → IsWithout 10 (body pair))
    (read : (pair : Pair) → is_passed_in form (body pair) ≡ false) where
  bodies_read : (pairs : List Pair) → All HasBytes pairs
      → lines_said form (lines_of (flat_map (λ pair. with_line_feed (body pair)) pairs))
      ≡ lines_of (flat_map (λ pair. with_line_feed (body pair)) pairs)
  bodies_read [] small = refl
  bodies_read (pair ∷ pairs) small =
      let one = All-head HasBytes pair pairs small in
      let rest = flat_map (λ pair. with_line_feed (body pair)) pairs in
      let cut : lines_of (flat_map (λ pair. with_line_feed (body pair)) (pair ∷ pairs))
      ≡ body pair ∷ lines_of rest =
      ap lines_of (append_assoc (body pair) (10 ∷ []) rest)
      ∙ lines_after (body pair) rest (plain pair one) in
      ap (lines_said form) cut
      ∙ ap (λ b. cond b (lines_said form (lines_of rest))
      (body pair ∷ lines_said form (lines_of rest))) (read pair)
      ∙ ap (λ (lines : List (List ℕ)). body pair ∷ lines)
      (bodies_read pairs (All-tail HasBytes pair pairs small))
      ∙ sym cut

pub lines_read : (form : TextForm) (pairs : List Pair) → All HasBytes pairs
    → lines_said form (lines_of (flat_map (line_in form) pairs))
    ≡ lines_of (flat_map (line_in form) pairs)
lines_read Hexadecimal pairs small =
    bodies_read Hexadecimal words words_without (λ pair. refl) pairs small
lines_read Escaped pairs small =
    bodies_read Escaped fields fields_without
    (λ pair. is_read pair.0 (escaped pair.1)) pairs small
