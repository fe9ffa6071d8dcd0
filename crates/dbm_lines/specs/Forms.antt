-- The two forms of a text of pairs, and of a script.
use Rattle.std.specs.Prelude.{ℕ, Bool, false, List, [], ◌∷◌, Option, flat_map, map, if◌then◌else◌}
use Rattle.std.specs.FinMap.{entries, keys}
use Rattle.dbm_model.specs.Calls.{Call, Reply}
use Rattle.dbm_model.specs.Pairs.{Key, Pair, Contents}
use Rattle.dbm_lines.specs.Dumps.{dump_line, text_line}
use Rattle.dbm_lines.specs.Escapes.{escaped, is_passed_over, pair_of_text_line}
use Rattle.dbm_lines.specs.Lines.{call_in_line, lines_of, reply_by, with_line_feed}
use Rattle.dbm_lines.specs.Scripts.{answer_by}
use Rattle.dbm_lines.specs.TextScripts.{call_in_text_line, reply_field}
use Rattle.dbm_lines.specs.Words.{word_of}
use Rattle.dbm_lines.specs.PairLines.{pair_of_line}
use Rattle.dbm_lines.specs.declared.forms.TextForm.{TextForm}
use Rattle.dbm_lines.specs.declared.forms.TextForm.TheVariants.{Hexadecimal, Escaped}

-- the pair that a line says
abbrev pub pair_in : TextForm → List ℕ → Option Pair
pair_in Hexadecimal = pair_of_line
pair_in Escaped = pair_of_text_line

-- whether a load passes over a line: in this form it does over none, or over comments and empty
-- lines
abbrev pub is_passed_in : TextForm → List ℕ → Bool
is_passed_in Hexadecimal line = false
is_passed_in Escaped line = is_passed_over line

-- the lines that a load does not pass over
abbrev pub lines_said : TextForm → List (List ℕ) → List (List ℕ)
lines_said form [] = []
lines_said form (line ∷ lines) =
    if is_passed_in form line then lines_said form lines else line ∷ lines_said form lines

-- the line of a pair
abbrev pub line_in : TextForm → Pair → List ℕ
line_in Hexadecimal = dump_line
line_in Escaped = text_line

-- the line of each pair, in ascending byte order of keys
abbrev pub dump_in : TextForm → Contents → List ℕ
dump_in form map = flat_map (line_in form) (entries map)

-- the line of a key
abbrev pub key_line_in : TextForm → Key → List ℕ
key_line_in Hexadecimal key = with_line_feed (word_of key)
key_line_in Escaped key = with_line_feed (escaped key)

-- the line of each key, in that order
abbrev pub listing_in : TextForm → Contents → List ℕ
listing_in form map = flat_map (key_line_in form) (keys map)

-- the call that a line asks for
abbrev pub call_in : TextForm → List ℕ → Option Call
call_in Hexadecimal = call_in_line
call_in Escaped = call_in_text_line

-- each line as the call that it asks for, or none where it is bad
abbrev pub script_in : TextForm → List ℕ → List (Option Call)
script_in form text = map (call_in form) (lines_of text)

-- a content or a key as a reply tells it
abbrev pub told_in : TextForm → List ℕ → List ℕ
told_in Hexadecimal = word_of
told_in Escaped = reply_field

-- the line of a reply
abbrev pub reply_line_in : TextForm → Reply → List ℕ
reply_line_in form reply = with_line_feed (reply_by (told_in form) reply)

-- the answer to a script
abbrev pub answer_in : TextForm → List (Option Call) → List Reply → List ℕ
answer_in form = answer_by (reply_line_in form)
