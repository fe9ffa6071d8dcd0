-- A script in the text form: its calls, and the lines of its answer.
use Rattle.std.specs.Prelude.{ℕ, nat_eq, nat_lt, Bool, ◌||◌, List, length, Option, None, map, codes, if◌then◌else◌}
use Rattle.std.specs.List.{starts_with}
use Rattle.std.specs.Str.{bytes_eq}
use Rattle.dbm_model.specs.Calls.{Call, Reply}
use Rattle.dbm_lines.specs.Escapes.{escaped, marked, unescaped, fields_in, longest_text_line}
use Rattle.dbm_lines.specs.Lines.{call_of_parts, lines_of, reply_by, with_line_feed}
use Rattle.dbm_lines.specs.Scripts.{answer_by}

abbrev pub call_of_fields : List (List ℕ) → Option Call
call_of_fields = call_of_parts unescaped

-- the call that a line of fields asks for, if it is no bad line
abbrev pub call_in_text_line : List ℕ → Option Call
call_in_text_line line =
    if nat_lt longest_text_line (length line) then None else call_of_fields (fields_in line)

-- each line as the call that it asks for, or none where it is bad
abbrev pub text_script_of : List ℕ → List (Option Call)
text_script_of text = map call_in_text_line (lines_of text)

-- a content or a key whose field would be read as another reply
abbrev pub is_like_reply : List ℕ → Bool
is_like_reply bytes = bytes_eq bytes (codes "none") || (bytes_eq bytes (codes "end")
    || starts_with nat_eq bytes (codes "-1 "))

-- a content or a key as a reply tells it
abbrev pub reply_field : List ℕ → List ℕ
reply_field bytes = if is_like_reply bytes then marked bytes else escaped bytes

-- the line of a reply
abbrev pub text_reply_line : Reply → List ℕ
text_reply_line reply = with_line_feed (reply_by reply_field reply)

-- the answer to a script in the text form
abbrev pub text_answer_of : List (Option Call) → List Reply → List ℕ
text_answer_of = answer_by text_reply_line
