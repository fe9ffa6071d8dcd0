-- How long to wait, as a text says.
use Rattle.std.specs.Prelude.{◌≡◌, ◌≤◌, ◌<◌, ◌⊎◌, ℕ, [], length, Option, Some, None}
use Rattle.std.specs.Str.Parse.{IsNumeral, digits_value, without_leading_plus}
use Rattle.clap.specs.Words.{Text}

-- one second where nothing is said, or a number of up to 86400, before which a plus may stand
abbrev pub SaysSeconds : Text → Option ℕ → Type 0
SaysSeconds text (Some seconds) = ((text ≡ []) × (seconds ≡ 1))
    ⊎ (IsNumeral 10 (without_leading_plus text)
    × (digits_value 10 (without_leading_plus text) ≡ seconds) × (seconds ≤ 86400))
SaysSeconds text None = (0 < length text)
    × (IsNumeral 10 (without_leading_plus text)
    → 86400 < digits_value 10 (without_leading_plus text))
