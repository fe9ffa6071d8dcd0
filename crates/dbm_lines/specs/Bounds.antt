-- How many bytes a line may have, without its line feed.
use Rattle.std.specs.Prelude.{ℕ, ◌/◌}
use Rattle.dbm_lines.specs.Escapes.{longest_text_line}
use Rattle.dbm_lines.specs.Lines.{longest_line}
use Rattle.dbm_lines.specs.declared.forms.TextForm.{TextForm}
use Rattle.dbm_lines.specs.declared.forms.TextForm.TheVariants.{Hexadecimal, Escaped}

-- one of this form
abbrev pub longest_in : TextForm → ℕ
longest_in Hexadecimal = longest_line
longest_in Escaped = longest_text_line

-- the bytes that a key or a content of such a line may have: a byte takes two digits in a word, and
-- one byte at least in a field
abbrev pub longest_part : TextForm → ℕ
longest_part Hexadecimal = longest_line / 2
longest_part Escaped = longest_text_line
