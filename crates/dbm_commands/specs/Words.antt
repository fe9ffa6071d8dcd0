-- The bytes of a word.
use Rattle.std.specs.Prelude.{ℕ, List, Option, Some}
use Rattle.dbm_lines.specs.Words.{word_bytes}
use Rattle.dbm_command_line.specs.declared.plan.Spelling.{Spelling}
use Rattle.dbm_command_line.specs.declared.plan.Spelling.TheVariants.{Text, Hexadecimal}

-- the word's own bytes, or those that its digits stand for
abbrev pub spelled : Spelling → List ℕ → Option (List ℕ)
spelled Text word = Some word
spelled Hexadecimal word = word_bytes word
