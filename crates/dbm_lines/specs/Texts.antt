-- Words, lines and replies, worked out by hand, and the law of words.
use Rattle.std.specs.Prelude.{◌≡◌, ℕ, ◌<◌, ◌≤◌, List, [], ◌∷◌, length, slice_index, Some, None, codes}
use Rattle.std.specs.FinMap.{empty, insert}
use Rattle.dbm_model.specs.Pairs.{Contents}
use Rattle.dbm_model.specs.Calls.{Insert, Replace, Store, Fetch, Delete, First, Next, Error, Clear, Stored, Kept, Deleted, Absent, Bytes, NoRecord, End, Number, Refused, Full, Exists}
use Rattle.dbm_lines.specs.Dumps.{dump_of, listing_of}
use Rattle.dbm_lines.specs.Lines.{lines_of, words_in, call_of_words, call_in_line, reply_line}
use Rattle.dbm_lines.specs.Scripts.{script_of, calls_in, answer_of}
use Rattle.dbm_lines.specs.Words.{word_of, word_bytes}

-- a word stands for the bytes that it was made of
abbrev pub WordsReadBack : Type 0
WordsReadBack = (bytes : List ℕ) → ((i : ℕ) → slice_index bytes i < 256)
    → word_bytes (word_of bytes) ≡ Some bytes

pub record WordExamples : Type 0 where
  pub empty : word_of [] ≡ codes "."
  pub lower : word_of (0x6b ∷ 0xff ∷ []) ≡ codes "6bff"
  pub either_case : word_bytes (codes "6B") ≡ Some (0x6b ∷ [])
  pub odd : word_bytes (codes "6") ≡ None
  pub no_word : word_bytes [] ≡ None
  pub no_digit : word_bytes (codes "zz") ≡ None

pub record LineExamples : Type 0 where
  pub lines : lines_of (codes "F 6b\n\nE") ≡ codes "F 6b" ∷ [] ∷ codes "E" ∷ []
  pub last_feed : lines_of (codes "E\n") ≡ codes "E" ∷ []
  pub store : call_in_line (codes "S 6b 76") ≡ Some (Store (0x6b ∷ []) (0x76 ∷ []) Replace)
  pub insert : call_in_line (codes "I . 7E") ≡ Some (Store [] (0x7e ∷ []) Insert)
  pub fetch : call_in_line (codes "F 6b") ≡ Some (Fetch (0x6b ∷ []))
  pub delete : call_in_line (codes "D 6b") ≡ Some (Delete (0x6b ∷ []))
  pub first : call_in_line (codes "1") ≡ Some First
  pub next : call_in_line (codes "N") ≡ Some Next
  pub error : call_in_line (codes "E") ≡ Some Error
  pub clear : call_in_line (codes "C") ≡ Some Clear
  pub lower_case : call_in_line (codes "n") ≡ None
  pub two_spaces : call_in_line (codes "F  6b") ≡ None
  pub unknown : call_in_line (codes "Q") ≡ None
  pub short : call_in_line (codes "S 6") ≡ None
  pub two_keys : call_in_line (codes "F 6b 6b") ≡ None
  pub empty : call_in_line [] ≡ None
  pub stored : reply_line Stored ≡ codes "0\n"
  pub kept : reply_line Kept ≡ codes "1\n"
  pub deleted : reply_line Deleted ≡ codes "0\n"
  pub bytes : reply_line (Bytes (0x76 ∷ [])) ≡ codes "76\n"
  pub no_bytes : reply_line (Bytes []) ≡ codes ".\n"
  pub no_record : reply_line NoRecord ≡ codes "none\n"
  pub end : reply_line End ≡ codes "end\n"
  pub last_fault : reply_line (Refused Exists) ≡ codes "-1 fault 15\n"
  pub absent : reply_line Absent ≡ codes "-1 absent\n"
  pub fault : reply_line (Refused Full) ≡ codes "-1 fault 6\n"
  pub number : reply_line (Number 0) ≡ codes "0\n"

-- a line of 139,264 bytes may be a call, and one of more is none
pub record LongLines : Type 0 where
  pub longest : (line : List ℕ) → length line ≤ 139264
      → call_in_line line ≡ call_of_words (words_in line)
  pub longer : (line : List ℕ) → 139264 < length line → call_in_line line ≡ None

-- the script of two lines and a bad one between them
abbrev pub ScriptExample : Type 0
ScriptExample =
    (calls_in (script_of (codes "S 6b 76\nQ\nF 6b\n")) ≡ Store (0x6b ∷ []) (0x76 ∷ []) Replace
    ∷ Fetch (0x6b ∷ []) ∷ [])
    × (answer_of (script_of (codes "S 6b 76\nQ\nF 6b\n")) (Stored ∷ Bytes (0x76 ∷ []) ∷ [])
    ≡ codes "0\n-1 line\n76\n")

-- two pairs, of which one has no content
abbrev pub two_pairs : Contents
two_pairs = insert (insert empty (0x62 ∷ []) []) (0x61 ∷ 0xff ∷ []) (0x01 ∷ [])

pub record DumpExamples : Type 0 where
  pub nothing : dump_of empty ≡ []
  pub dump : dump_of two_pairs ≡ codes "61ff 01\n62 .\n"
  pub listing : listing_of two_pairs ≡ codes "61ff\n62\n"
