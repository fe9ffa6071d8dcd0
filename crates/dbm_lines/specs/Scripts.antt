-- A script and the answer to it.
use Rattle.std.specs.Prelude.{ℕ, List, [], ◌∷◌, ◌++◌, Option, Some, None, map}
use Rattle.std.specs.List.{filter_map}
use Rattle.dbm_model.specs.Calls.{Call, Reply}
use Rattle.dbm_lines.specs.Lines.{lines_of, call_in_line, reply_line, bad_line}

-- each line as the call that it asks for, or none where it is bad
abbrev pub script_of : List ℕ → List (Option Call)
script_of text = map call_in_line (lines_of text)

-- the calls that a script makes
abbrev pub calls_in : List (Option Call) → List Call
calls_in script = filter_map (λ line. line) script

-- the line of each reply in order, and `-1 line` where the line is bad
abbrev pub answer_by : (Reply → List ℕ) → List (Option Call) → List Reply → List ℕ
answer_by line_of [] replies = []
answer_by line_of (None ∷ script) replies = bad_line ++ answer_by line_of script replies
answer_by line_of (Some call ∷ script) [] = []
answer_by line_of (Some call ∷ script) (reply ∷ replies) =
    line_of reply ++ answer_by line_of script replies

-- the answer in words
abbrev pub answer_of : List (Option Call) → List Reply → List ℕ
answer_of = answer_by reply_line
