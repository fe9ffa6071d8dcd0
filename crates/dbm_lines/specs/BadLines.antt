-- Why a line says no pair.
use Rattle.std.specs.Prelude.{◌≡◌, ◌≢◌, ◌≤◌, ◌<◌, ◌⊎◌, ◌%◌, ℕ, List, [], ◌∷◌, length, None, codes}
use Rattle.dbm_lines.specs.Escapes.{fields_in, unescaped}
use Rattle.dbm_lines.specs.Lines.{words_in}
use Rattle.dbm_lines.specs.Words.{word_bytes}
use Rattle.dbm_lines.specs.Bounds.{longest_in}
use Rattle.dbm_lines.specs.declared.forms.TextForm.{TextForm}
use Rattle.dbm_lines.specs.declared.forms.TextForm.TheVariants.{Hexadecimal, Escaped}
use Rattle.dbm_lines.specs.declared.bad_lines.BadLine.{BadLine}
use Rattle.dbm_lines.specs.declared.bad_lines.BadLine.TheVariants.{TooLong, OnePart, ManyParts, NoDigits, OddDigits, NotADigit, BadEscape}

-- the words of a line, or its fields
abbrev pub parts_in : TextForm → List ℕ → List (List ℕ)
parts_in Hexadecimal line = words_in line
parts_in Escaped line = fields_in line

-- one of the parts is so
abbrev pub HasPart : (List ℕ → Type 0) → List (List ℕ) → Type 0
HasPart IsSo [] = ⊥
HasPart IsSo (part ∷ parts) = IsSo part ⊎ HasPart IsSo parts

-- `.` is the word of no bytes
abbrev pub IsOddWord : List ℕ → Type 0
IsOddWord word = (length word % 2 ≡ 1) × (word ≢ codes ".")

-- digits in pairs that stand for no bytes, since one of them is none
abbrev pub LacksADigit : List ℕ → Type 0
LacksADigit word = (0 < length word) × (length word % 2 ≡ 0) × (word_bytes word ≡ None)

abbrev pub IsBadPart : TextForm → BadLine → List ℕ → Type 0
IsBadPart Hexadecimal NoDigits word = word ≡ []
IsBadPart Hexadecimal OddDigits word = IsOddWord word
IsBadPart Hexadecimal NotADigit word = LacksADigit word
IsBadPart Escaped BadEscape field = unescaped field ≡ None
IsBadPart form why part = ⊥

-- this is so of the line
abbrev pub IsBadBy : TextForm → List ℕ → BadLine → Type 0
IsBadBy form line TooLong = longest_in form < length line
IsBadBy form line OnePart =
    (length line ≤ longest_in form) × (parts_in form line ≡ line ∷ [])
IsBadBy form line ManyParts =
    (length line ≤ longest_in form) × (2 < length (parts_in form line))
IsBadBy form line why =
    (length line ≤ longest_in form) × (length (parts_in form line) ≡ 2)
    × HasPart (IsBadPart form why) (parts_in form line)
