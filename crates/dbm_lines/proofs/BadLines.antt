-- Lines that say no pair.
use Rattle.std.proofs.Common.{◌≡◌, ◌⊎◌, inl, inr, ◌==◌, ◌≤◌, ◌<◌, ◌+◌, ℕ, suc, false, List, [], ◌∷◌, length, take, Option, Some, None, IfNone, is_some, refl, subst, arith}
use Rattle.std.specs.Prelude.{option_and_then}
use Rattle.std.proofs.lemmas.List.{take_all, length-take-le}
use Rattle.std.proofs.lemmas.Bool.Decides.{leb_tells}
use Rattle.std.specs.Option.{option_map}
use Rattle.dbm_model.specs.Pairs.{Pair}
use Rattle.dbm_lines.specs.Escapes.{longest_text_line, fields_in, pair_of_fields, unescaped}
use Rattle.dbm_lines.specs.Lines.{longest_line, words_in}
use Rattle.dbm_lines.specs.Words.{word_bytes}
use Rattle.dbm_lines.specs.BadLines.{HasPart, IsBadBy, IsBadPart, parts_in}
use Rattle.dbm_lines.specs.Bounds.{longest_in}
use Rattle.dbm_lines.specs.Forms.{pair_in}
use Rattle.dbm_lines.specs.PairLines.{pair_of_words}
use Rattle.dbm_lines.specs.declared.forms.TextForm.{TextForm}
use Rattle.dbm_lines.specs.declared.forms.TextForm.TheVariants.{Hexadecimal, Escaped}
use Rattle.dbm_lines.specs.declared.bad_lines.BadLine.{BadLine}
use Rattle.dbm_lines.specs.declared.bad_lines.BadLine.TheVariants.{TooLong, OnePart, ManyParts, NoDigits, OddDigits, NotADigit, BadEscape}
use Rattle.dbm_lines.proofs.Requests.{first_part}
use Rattle.dbm_lines.proofs.TextLines.{limited}

-- the value of an option that has none
pub from_none : {A : Type 0} {P : Type 0} (o : Option A) → IfNone o P → is_some o ≡ false → P
from_none None h none = h
from_none (Some x) h none = absurd (let e = none in cc)

-- behind a second separator there is a third part
pub more_parts : (form : TextForm) (line key content second rest : List ℕ)
    → parts_in form line ≡ key ∷ parts_in form content
    → parts_in form content ≡ second ∷ parts_in form rest → 2 < length (parts_in form line)
more_parts Hexadecimal line key content second rest one two =
    let first = first_part (λ byte. byte == 32) rest in rw (one, two, first.2) (omega arith)
more_parts Escaped line key content second rest one two =
    let first = first_part (λ byte. byte == 9) rest in rw (one, two, first.2) (omega arith)

-- one of two parts stands for no bytes
abbrev paired : Option (List ℕ) → Option (List ℕ) → Option Pair
paired key content = option_and_then (λ k. option_map (λ c. (k, c)) content) key

one_is_none : (key content : Option (List ℕ)) → paired key content ≡ None
    → (key ≡ None) ⊎ (content ≡ None)
one_is_none None content none = inl refl
one_is_none (Some k) None none = inr refl
one_is_none (Some k) (Some c) none = absurd (let e = none in cc)

-- a line that isn't longer than the limit says what its parts do
said_within : {A : Type 0} (says : List ℕ → Option A) (limit : ℕ) (line : List ℕ)
    → length line ≤ limit → limited says limit line ≡ None → says line ≡ None
said_within says limit line le none = elim (leb_tells (suc limit) (length line)) [
  | inl more ↦ absurd (omega (arith, more.1, le))
  | inr fits ↦ rw fits.0 at none
]

none_so : (key content : List ℕ) → HasPart (λ part. ⊥) (key ∷ content ∷ []) → ⊥
none_so key content (inl h) = h
none_so key content (inr (inl h)) = h
none_so key content (inr (inr h)) = h

-- two words, one of which is bad for this reason
bad_by_words : (line key content : List ℕ) (why : BadLine) → length line ≤ longest_line
    → words_in line ≡ key ∷ content ∷ []
    → HasPart (IsBadPart Hexadecimal why) (key ∷ content ∷ []) → IsBadBy Hexadecimal line why
bad_by_words line key content TooLong le are h = absurd (none_so key content h)
bad_by_words line key content OnePart le are h = absurd (none_so key content h)
bad_by_words line key content ManyParts le are h = absurd (none_so key content h)
bad_by_words line key content NoDigits le are h = (le, rw are refl, rw are h)
bad_by_words line key content OddDigits le are h = (le, rw are refl, rw are h)
bad_by_words line key content NotADigit le are h = (le, rw are refl, rw are h)
bad_by_words line key content BadEscape le are h = absurd (none_so key content h)

pub of_words : (form : TextForm) (line key content : List ℕ) (why : BadLine) → form ≡ Hexadecimal
    → length line ≤ longest_in form → parts_in form line ≡ key ∷ parts_in form content
    → parts_in form content ≡ content ∷ []
    → ((word_bytes key ≡ None) ⊎ (word_bytes content ≡ None)
    → HasPart (IsBadPart Hexadecimal why) (key ∷ content ∷ []))
    → pair_in form line ≡ None → IsBadBy form line why
of_words Escaped line key content why is le split single bad none = absurd (let e = is in cc)
of_words Hexadecimal line key content why is le split single bad none =
    let are : words_in line ≡ key ∷ content ∷ [] = rw (split, single) refl in
    let said = said_within (λ l. pair_of_words (words_in l)) longest_line line le none in
    bad_by_words line key content why le are
    (bad (one_is_none (word_bytes key) (word_bytes content) (rw are at said)))

-- two fields, one of which is bad
field_of : (key content : List ℕ) → (unescaped key ≡ None) ⊎ (unescaped content ≡ None)
    → HasPart (IsBadPart Escaped BadEscape) (key ∷ content ∷ [])
field_of key content (inl bad) = inl bad
field_of key content (inr bad) = inr (inl bad)

pub of_fields : (form : TextForm) (line key content : List ℕ) → form ≡ Escaped
    → length line ≤ longest_in form → parts_in form line ≡ key ∷ parts_in form content
    → parts_in form content ≡ content ∷ [] → pair_in form line ≡ None
    → IsBadBy form line BadEscape
of_fields Hexadecimal line key content is le split single none = absurd (let e = is in cc)
of_fields Escaped line key content is le split single none =
    let are : fields_in line ≡ key ∷ content ∷ [] = rw (split, single) refl in
    let said = said_within (λ l. pair_of_fields (fields_in l)) longest_text_line line le none in (
      le,
      rw are refl,
      rw are (field_of key content
          (one_is_none (unescaped key) (unescaped content) (rw are at said))),
    )

whole_or_cut : (most : ℕ) (line : List ℕ) → (take (most + 1) line ≡ line)
    ⊎ ((most < length line) × (length (take (most + 1) line) ≡ most + 1))
whole_or_cut most line = elim (leb_tells (most + 1) (length line)) [
  | inl more ↦ inr (omega (arith, more.1), length-take-le (most + 1) line more.1)
  | inr fits ↦ inl (take_all (most + 1) line (omega (arith, fits.1)))
]

bad_of_cut : (form : TextForm) (line : List ℕ) (why : BadLine) → longest_in form < length line
    → length (take (longest_in form + 1) line) ≡ longest_in form + 1
    → IsBadBy form (take (longest_in form + 1) line) why → IsBadBy form line why
bad_of_cut form line TooLong more cut bad = more
bad_of_cut form line OnePart more cut bad = absurd (omega (arith, cut, bad.0))
bad_of_cut form line ManyParts more cut bad = absurd (omega (arith, cut, bad.0))
bad_of_cut form line NoDigits more cut bad = absurd (omega (arith, cut, bad.0))
bad_of_cut form line OddDigits more cut bad = absurd (omega (arith, cut, bad.0))
bad_of_cut form line NotADigit more cut bad = absurd (omega (arith, cut, bad.0))
bad_of_cut form line BadEscape more cut bad = absurd (omega (arith, cut, bad.0))

-- what is kept of a line is bad for the reason that the line is
pub bad-kept : (form : TextForm) (line : List ℕ) (why : BadLine)
    → IsBadBy form (take (longest_in form + 1) line) why → IsBadBy form line why
bad-kept form line why bad = elim (whole_or_cut (longest_in form) line) [
  | inl same ↦ subst (λ (l : List ℕ). IsBadBy form l why) same bad
  | inr cut ↦ bad_of_cut form line why cut.0 cut.1 bad
]
