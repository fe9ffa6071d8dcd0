-- What the reading of a line takes from a text.
use Rattle.std.specs.Prelude.{◌≡◌, ℕ, ◌+◌, ◌==◌, Bool, true, false, List, [], ◌∷◌, length, take, Option, Some, None, if◌then◌else◌}
use Rattle.dbm_lines.specs.declared.lines.LineRead.{LineRead}
use Rattle.dbm_lines.specs.declared.lines.LineRead.TheVariants.{End, Last, Followed}

-- whether there was a line
abbrev pub is_line : LineRead → Bool
is_line End = false
is_line Last = true
is_line Followed = true

-- the bytes before the first line feed, or all of them
abbrev pub line_bytes : List ℕ → List ℕ
line_bytes [] = []
line_bytes (byte ∷ text) = if byte == 10 then [] else byte ∷ line_bytes text

-- the bytes behind the first line feed, or none
abbrev pub after_line : List ℕ → List ℕ
after_line [] = []
after_line (byte ∷ text) = if byte == 10 then text else after_line text

-- where a line is left, its first bytes were read, up to the limit, and the bytes behind it are
-- left
abbrev pub ReadsLine : ℕ → List ℕ → Bool → List ℕ → Option (List ℕ) → Type 0
ReadsLine limit [] more line rest = (more ≡ false) × (rest ≡ Some [])
ReadsLine limit (byte ∷ text) more line rest =
    (more ≡ true) × (line ≡ take limit (line_bytes (byte ∷ text)))
    × (rest ≡ Some (after_line (byte ∷ text)))

-- the bytes that were read and those that the count went down by are as many
abbrev pub IsCounted : Option (List ℕ) → ℕ → Option (List ℕ) → ℕ → Type 0
IsCounted None before rest after = Unit {0}
IsCounted (Some text) before None after = ⊥
IsCounted (Some text) before (Some rest) after = length text + after ≡ length rest + before
