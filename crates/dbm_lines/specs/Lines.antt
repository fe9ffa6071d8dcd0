-- The lines of a script and of its answer.
use Rattle.std.specs.Prelude.{ℕ, ◌==◌, nat_lt, List, [], ◌∷◌, ◌++◌, length, Option, Some, None, option_and_then, codes, if◌then◌else◌}
use Rattle.std.specs.List.{slice_split}
use Rattle.std.specs.Str.{bytes_eq}
use Rattle.std.specs.Fmt.{decimal}
use Rattle.dbm_model.specs.Calls.{Insert, Replace, Call, Store, Fetch, Delete, First, Next, Error, Clear, Reply, Stored, Kept, Deleted, Absent, Bytes, NoRecord, End, Number, Upgraded, Refused, number_of}
use Rattle.dbm_lines.specs.Words.{word_of, word_bytes}

-- the first line goes on in front
abbrev pub onto_line : ℕ → List (List ℕ) → List (List ℕ)
onto_line byte [] = (byte ∷ []) ∷ []
onto_line byte (line ∷ lines) = (byte ∷ line) ∷ lines

-- the lines of a text without their line feeds; nothing after the last line feed is no line
abbrev pub lines_of : List ℕ → List (List ℕ)
lines_of [] = []
lines_of (byte ∷ text) = if byte == 10 then [] ∷ lines_of text else onto_line byte (lines_of text)

-- the words of a line stand one space apart
abbrev pub words_in : List ℕ → List (List ℕ)
words_in line = slice_split (λ byte. byte == 32) line

-- `1`, `N`, `E`, `C`
abbrev pub bare_call : List ℕ → Option Call
bare_call name =
    if bytes_eq name (codes "1") then Some First
    else if bytes_eq name (codes "N") then Some Next
    else if bytes_eq name (codes "E") then Some Error
    else if bytes_eq name (codes "C") then Some Clear
    else None

-- `F key`, `D key`
abbrev pub key_call : List ℕ → List ℕ → Option Call
key_call name key =
    if bytes_eq name (codes "F") then Some (Fetch key)
    else if bytes_eq name (codes "D") then Some (Delete key)
    else None

-- `S key content` replaces, `I key content` inserts
abbrev pub pair_call : List ℕ → List ℕ → List ℕ → Option Call
pair_call name key content =
    if bytes_eq name (codes "S") then Some (Store key content Replace)
    else if bytes_eq name (codes "I") then Some (Store key content Insert)
    else None

-- the call of the parts of a line, each of which stands for some bytes, if it is a good one
abbrev pub call_of_parts : (List ℕ → Option (List ℕ)) → List (List ℕ) → Option Call
call_of_parts bytes_of (name ∷ []) = bare_call name
call_of_parts bytes_of (name ∷ key ∷ []) = option_and_then (key_call name) (bytes_of key)
call_of_parts bytes_of (name ∷ key ∷ content ∷ []) =
    option_and_then (λ k. option_and_then (pair_call name k) (bytes_of content)) (bytes_of key)
call_of_parts bytes_of _ = None

abbrev pub call_of_words : List (List ℕ) → Option Call
call_of_words = call_of_parts word_bytes

-- the bytes that a line of words may have, of a script or of a text of pairs
abbrev pub longest_line : ℕ
longest_line = 139264

-- the call that a line asks for, if it is no bad line
abbrev pub call_in_line : List ℕ → Option Call
call_in_line line =
    if nat_lt longest_line (length line) then None else call_of_words (words_in line)

-- the text of a reply, which tells a content or a key so
abbrev pub reply_by : (List ℕ → List ℕ) → Reply → List ℕ
reply_by told Stored = codes "0"
reply_by told Kept = codes "1"
reply_by told Deleted = codes "0"
reply_by told Absent = codes "-1 absent"
reply_by told (Bytes bytes) = told bytes
reply_by told NoRecord = codes "none"
reply_by told End = codes "end"
reply_by told (Number n) = decimal n
reply_by told Upgraded = codes "0"
reply_by told (Refused fault) = codes "-1 fault " ++ decimal (number_of fault)

abbrev pub with_line_feed : List ℕ → List ℕ
with_line_feed text = text ++ 10 ∷ []

-- the line of a reply in words
abbrev pub reply_line : Reply → List ℕ
reply_line reply = with_line_feed (reply_by word_of reply)

-- the line that answers a bad line
abbrev pub bad_line : List ℕ
bad_line = with_line_feed (codes "-1 line")
