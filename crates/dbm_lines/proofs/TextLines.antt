-- The lines of a text, one after another.
use Rattle.std.proofs.Common.{◌≡◌, inl, inr, ℕ, suc, ◌+◌, ◌<◌, ◌≤◌, ◌==◌, nat_lt, true, false, cond, List, [], ◌∷◌, length, take, Option, Some, None, IfSome, refl, ap, arith}
use Rattle.std.proofs.lemmas.List.{take_all, length-take-le}
use Rattle.std.proofs.lemmas.Bool.Decides.{leb_tells}
use Rattle.dbm_lines.specs.Escapes.{longest_text_line, fields_in, pair_of_fields}
use Rattle.dbm_lines.specs.Lines.{longest_line, lines_of, onto_line, words_in, call_of_words}
use Rattle.dbm_lines.specs.TextScripts.{call_of_fields}
use Rattle.dbm_lines.specs.Bounds.{longest_in}
use Rattle.dbm_lines.specs.Forms.{call_in, pair_in, is_passed_in}
use Rattle.dbm_lines.specs.PairLines.{pair_of_words}
use Rattle.dbm_lines.specs.declared.forms.TextForm.{TextForm}
use Rattle.dbm_lines.specs.declared.forms.TextForm.TheVariants.{Hexadecimal, Escaped}
use Rattle.dbm_lines.specs.Reading.{line_bytes, after_line, ReadsLine, IsCounted}

-- the first line of a text and the lines of the rest
pub first_line : (x : ℕ) (xs : List ℕ)
    → lines_of (x ∷ xs) ≡ line_bytes (x ∷ xs) ∷ lines_of (after_line (x ∷ xs))
first_line x [] = elim (x == 10) as
    (λ b. cond b ([] ∷ []) ((x ∷ []) ∷ []) ≡ cond b [] (x ∷ []) ∷ lines_of (cond b [] [])) [
      | true ↦
          refl
      | false ↦ refl
    ]
first_line x (y ∷ ys) = elim (x == 10) as
    (λ b. cond b ([] ∷ lines_of (y ∷ ys)) (onto_line x (lines_of (y ∷ ys)))
    ≡ cond b [] (x ∷ line_bytes (y ∷ ys)) ∷ lines_of (cond b (y ∷ ys) (after_line (y ∷ ys)))) [
      | true ↦ refl
      | false ↦ ap (onto_line x) (first_line y ys)
    ]

-- what a line that is not longer than the limit says
abbrev pub limited : {A : Type 0} → (List ℕ → Option A) → ℕ → List ℕ → Option A
limited says limit line = cond (nat_lt limit (length line)) None (says line)

-- what is kept beyond the limit tells as much as the whole line
pub limited-take : {A : Type 0} (says : List ℕ → Option A) (limit kept : ℕ) (line : List ℕ)
    → limit < kept → limited says limit (take kept line) ≡ limited says limit line
limited-take says limit kept line more = elim (leb_tells kept (length line)) [
  | inl w ↦ elim (leb_tells (suc limit) (length (take kept line))) [
    | inl cut ↦ elim (leb_tells (suc limit) (length line)) [
      | inl whole ↦ rw (whole.0, cut.0) refl
      | inr whole ↦ absurd (omega (arith, whole.1, w.1, more))
    ]
    | inr cut ↦ absurd (omega (arith, cut.1, more, length-take-le kept line w.1))
  ]
  | inr w ↦ rw (take_all kept line (omega (arith, w.1))) refl
]

-- so does what is kept of a line of either form
pub pair_in-kept : (form : TextForm) (line : List ℕ)
    → pair_in form (take (longest_in form + 1) line) ≡ pair_in form line
pair_in-kept Hexadecimal line =
    limited-take (λ line. pair_of_words (words_in line)) longest_line (longest_line + 1) line
    (omega arith)
pair_in-kept Escaped line =
    limited-take (λ line. pair_of_fields (fields_in line)) longest_text_line
    (longest_text_line + 1) line (omega arith)

-- and it is passed over where the whole line is
pub is_passed_in-kept : (form : TextForm) (line : List ℕ)
    → is_passed_in form (take (longest_in form + 1) line) ≡ is_passed_in form line
is_passed_in-kept Hexadecimal line = refl
is_passed_in-kept Escaped [] = refl
is_passed_in-kept Escaped (byte ∷ line) = refl

pub call_in-kept : (form : TextForm) (line : List ℕ)
    → call_in form (take (longest_in form + 1) line) ≡ call_in form line
call_in-kept Hexadecimal line =
    limited-take (λ line. call_of_words (words_in line)) longest_line (longest_line + 1) line
    (omega arith)
call_in-kept Escaped line =
    limited-take (λ line. call_of_fields (fields_in line)) longest_text_line
    (longest_text_line + 1) line (omega arith)

-- at the end of a text nothing is left of it
pub nothing_left : (limit : ℕ) (first now next : Option (List ℕ)) (start left : ℕ)
    (line : List ℕ) → IsCounted first start now left
    → IfSome now (λ text. ReadsLine limit text false line next)
    → IfSome first (λ text. next ≡ Some [])
nothing_left limit None now next start left line h read = tt
nothing_left limit (Some text) None next start left line h read = absurd h
nothing_left limit (Some text) (Some []) next start left line h read = read.1
nothing_left limit (Some text) (Some (x ∷ xs)) next start left line h read = let e = read.0 in cc

-- nothing is read yet
pub counted_first : (first : Option (List ℕ)) (n : ℕ) → IsCounted first n first n
counted_first None n = tt
counted_first (Some text) n = refl

-- more is counted where more is read
pub counted_on : (first now next : Option (List ℕ)) (start before after : ℕ)
    → IsCounted first start now before → IsCounted now before next after
    → IsCounted first start next after
counted_on None now next start before after h more = tt
counted_on (Some text) None next start before after h more = absurd h
counted_on (Some text) (Some rest) None start before after h more = absurd more
counted_on (Some text) (Some rest) (Some later) start before after h more = omega (arith, h, more)

-- a text of which nothing is left has no more bytes than the count began with
pub not_longer : (first next : Option (List ℕ)) (start after : ℕ) → IsCounted first start next after
    → IfSome first (λ text. next ≡ Some []) → IfSome first (λ text. length text ≤ start)
not_longer None next start after h end = tt
not_longer (Some text) None start after h end = absurd h
not_longer (Some text) (Some []) start after h end = omega (arith, h)
not_longer (Some text) (Some (x ∷ xs)) start after h end = cc
