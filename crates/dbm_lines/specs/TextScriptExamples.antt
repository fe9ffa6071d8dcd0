-- Lines and replies of scripts in the text form, worked out by hand, and their laws.
use Rattle.std.specs.Prelude.{◌≡◌, ◌≢◌, ℕ, ◌<◌, ◌≤◌, List, [], ◌∷◌, length, slice_index, Some, None, codes}
use Rattle.std.specs.List.{All}
use Rattle.dbm_model.specs.Calls.{Insert, Replace, Store, Fetch, Delete, First, Next, Error, Clear, Fault, Stored, Kept, Deleted, Absent, Bytes, NoRecord, End, Number, Refused, Full, Exists}
use Rattle.dbm_lines.specs.Escapes.{marked, unescaped, fields_in}
use Rattle.dbm_lines.specs.EscapeTexts.{IsPrintable}
use Rattle.dbm_lines.specs.Lines.{bad_line}
use Rattle.dbm_lines.specs.Scripts.{calls_in}
use Rattle.dbm_lines.specs.TextScripts.{call_of_fields, call_in_text_line, text_script_of, reply_field, text_reply_line, text_answer_of}

pub record TextCallExamples : Type 0 where
  pub store : call_in_text_line (codes "S\ta key\tits content")
      ≡ Some (Store (codes "a key") (codes "its content") Replace)
  pub insert : call_in_text_line (codes "I\tk\t\\t\\xFf")
      ≡ Some (Store (codes "k") (9 ∷ 0xff ∷ []) Insert)
  pub fetch : call_in_text_line (codes "F\tk") ≡ Some (Fetch (codes "k"))
  pub delete : call_in_text_line (codes "D\tk") ≡ Some (Delete (codes "k"))
  pub first : call_in_text_line (codes "1") ≡ Some First
  pub next : call_in_text_line (codes "N") ≡ Some Next
  pub error : call_in_text_line (codes "E") ≡ Some Error
  pub clear : call_in_text_line (codes "C") ≡ Some Clear
  pub no_key : call_in_text_line (codes "F\t") ≡ Some (Fetch [])
  pub no_content : call_in_text_line (codes "S\tk\t") ≡ Some (Store (codes "k") [] Replace)
  pub nothing : call_in_text_line (codes "S\t\t") ≡ Some (Store [] [] Replace)
  pub dot : call_in_text_line (codes "F\t.") ≡ Some (Fetch (codes "."))
  pub marked_key : call_in_text_line (codes "F\t\\x6eone") ≡ Some (Fetch (codes "none"))
  pub lower_case : call_in_text_line (codes "f\tk") ≡ None
  pub two_tabs : call_in_text_line (codes "F\t\tk") ≡ None
  pub spaces : call_in_text_line (codes "F k") ≡ None
  pub no_field : call_in_text_line (codes "F") ≡ None
  pub one_field : call_in_text_line (codes "S\tk") ≡ None
  pub three_fields : call_in_text_line (codes "S\tk\tc\t") ≡ None
  pub bare_with_field : call_in_text_line (codes "N\t") ≡ None
  pub bad_key : call_in_text_line (codes "S\t\\q\tc") ≡ None
  pub bad_content : call_in_text_line (codes "S\tk\t\\") ≡ None
  pub unknown : call_in_text_line (codes "Q") ≡ None
  pub empty : call_in_text_line [] ≡ None

pub record TextReplyExamples : Type 0 where
  pub stored : text_reply_line Stored ≡ codes "0\n"
  pub kept : text_reply_line Kept ≡ codes "1\n"
  pub deleted : text_reply_line Deleted ≡ codes "0\n"
  pub absent : text_reply_line Absent ≡ codes "-1 absent\n"
  pub no_record : text_reply_line NoRecord ≡ codes "none\n"
  pub end : text_reply_line End ≡ codes "end\n"
  pub number : text_reply_line (Number 0) ≡ codes "0\n"
  pub fault : text_reply_line (Refused Full) ≡ codes "-1 fault 6\n"
  pub last_fault : text_reply_line (Refused Exists) ≡ codes "-1 fault 15\n"
  pub bytes : text_reply_line (Bytes (codes "a\t\\ b")) ≡ codes "a\\t\\\\ b\n"
  pub no_bytes : text_reply_line (Bytes []) ≡ codes "\n"
  pub one_byte : text_reply_line (Bytes (0xff ∷ [])) ≡ codes "\\xff\n"
  pub none : text_reply_line (Bytes (codes "none")) ≡ codes "\\x6eone\n"
  pub end_word : text_reply_line (Bytes (codes "end")) ≡ codes "\\x65nd\n"
  pub refusal : text_reply_line (Bytes (codes "-1 x\t")) ≡ codes "\\x2d1 x\\t\n"
  pub longer : text_reply_line (Bytes (codes "nones")) ≡ codes "nones\n"
  pub shorter : text_reply_line (Bytes (codes "en")) ≡ codes "en\n"
  pub minus : text_reply_line (Bytes (codes "-1")) ≡ codes "-1\n"
  pub zero : text_reply_line (Bytes (codes "0")) ≡ codes "0\n"
  pub none_marked : marked [] ≡ []

-- a line of 266,240 bytes may be a call, and one of more is none
pub record LongTextCalls : Type 0 where
  pub longest : (line : List ℕ) → length line ≤ 266240
      → call_in_text_line line ≡ call_of_fields (fields_in line)
  pub longer : (line : List ℕ) → 266240 < length line → call_in_text_line line ≡ None

-- the script of two lines and a bad one between them
pub record TextScriptExample : Type 0 where
  pub calls : calls_in (text_script_of (codes "S\tk\tend\nQ\nF\tk\n"))
      ≡ Store (codes "k") (codes "end") Replace ∷ Fetch (codes "k") ∷ []
  pub answer : text_answer_of (text_script_of (codes "S\tk\tend\nQ\nF\tk\n"))
      (Stored ∷ Bytes (codes "end") ∷ []) ≡ codes "0\n-1 line\n\\x65nd\n"

-- each is a byte
abbrev pub HaveBytes : List ℕ → Type 0
HaveBytes bytes = (i : ℕ) → slice_index bytes i < 256

-- a content or a key that a reply tells is a field of its bytes, on one line
pub record ReplyFields : Type 0 where
  pub reads_back : (bytes : List ℕ) → HaveBytes bytes → unescaped (reply_field bytes) ≡ Some bytes
  pub printable : (bytes : List ℕ) → HaveBytes bytes → All IsPrintable (reply_field bytes)

-- the line of a content or a key is no line of what else may be answered in its place
pub record RepliesDiffer : Type 0 where
  pub no_record : (bytes : List ℕ) → HaveBytes bytes
      → text_reply_line (Bytes bytes) ≢ text_reply_line NoRecord
  pub end : (bytes : List ℕ) → HaveBytes bytes
      → text_reply_line (Bytes bytes) ≢ text_reply_line End
  pub absent : (bytes : List ℕ) → HaveBytes bytes
      → text_reply_line (Bytes bytes) ≢ text_reply_line Absent
  pub refused : (bytes : List ℕ) (fault : Fault) → HaveBytes bytes
      → text_reply_line (Bytes bytes) ≢ text_reply_line (Refused fault)
  pub bad : (bytes : List ℕ) → HaveBytes bytes → text_reply_line (Bytes bytes) ≢ bad_line
