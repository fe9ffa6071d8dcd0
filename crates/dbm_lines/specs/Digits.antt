-- Hexadecimal digits and their values.
use Rattle.std.specs.Prelude.{ℕ, Option, Some, None, nat_lt, slice_index, if◌then◌else◌}
use Rattle.hex.specs.Hex.{lower_digits}

-- the digit of a value below 16, in lower case
abbrev pub digit_at : ℕ → ℕ
digit_at value = slice_index lower_digits value

-- a value that a digit may have, and none for a greater one
abbrev pub value_of_digit : ℕ → Option ℕ
value_of_digit value = if nat_lt value 16 then Some value else None
