-- Fields and their lines, worked out by hand, and the laws of fields.
use Rattle.std.specs.Prelude.{◌≡◌, ℕ, ◌<◌, ◌≤◌, true, false, List, [], ◌∷◌, ◌++◌, length, slice_index, Some, None, codes}
use Rattle.std.specs.List.{All}
use Rattle.std.specs.FinMap.{empty}
use Rattle.dbm_lines.specs.Dumps.{text_dump_of, text_line, text_listing_of}
use Rattle.dbm_lines.specs.Escapes.{escaped, key_field, unescaped, is_passed_over, pair_of_text_line, pair_of_fields, fields_in}
use Rattle.dbm_lines.specs.Texts.{two_pairs}

-- a field stands for the bytes that it was made of
abbrev pub EscapesReadBack : Type 0
EscapesReadBack = (bytes : List ℕ) → ((i : ℕ) → slice_index bytes i < 256)
    → unescaped (escaped bytes) ≡ Some bytes

-- a byte that is written in a field, which is no tab and no line feed
abbrev pub IsPrintable : ℕ → Type 0
IsPrintable byte = (32 ≤ byte) × (byte ≤ 126)

abbrev pub FieldsArePrintable : Type 0
FieldsArePrintable = (bytes : List ℕ) → ((i : ℕ) → slice_index bytes i < 256)
    → All IsPrintable (escaped bytes)

-- the field of a key stands for the key, is printable, and begins no line that is passed over
pub record KeyFieldLaws : Type 0 where
  pub read_back : (key : List ℕ) → ((i : ℕ) → slice_index key i < 256)
      → unescaped (key_field key) ≡ Some key
  pub printable : (key : List ℕ) → ((i : ℕ) → slice_index key i < 256)
      → All IsPrintable (key_field key)
  pub read : (key content : List ℕ) → is_passed_over (key_field key ++ 9 ∷ content) ≡ false

pub record EscapeExamples : Type 0 where
  pub nothing : escaped [] ≡ []
  pub plain : escaped (codes "a key!") ≡ codes "a key!"
  pub backslash : escaped (codes "\\") ≡ codes "\\\\"
  pub tab : escaped (codes "\t") ≡ codes "\\t"
  pub line_feed : escaped (codes "\n") ≡ codes "\\n"
  pub zero_byte : escaped (0 ∷ []) ≡ codes "\\x00"
  pub delete : escaped (127 ∷ []) ≡ codes "\\x7f"
  pub lower_case : escaped (0xfe ∷ []) ≡ codes "\\xfe"
  pub either_case : unescaped (codes "\\xFe") ≡ Some (0xfe ∷ [])
  pub before_more : unescaped (codes "\\x411") ≡ Some (codes "A1")
  pub typed : unescaped (0xc3 ∷ 0xa9 ∷ []) ≡ Some (0xc3 ∷ 0xa9 ∷ [])
  pub unknown : unescaped (codes "\\q") ≡ None
  pub upper_letter : unescaped (codes "\\N") ≡ None
  pub one_digit : unescaped (codes "\\x4") ≡ None
  pub no_digit : unescaped (codes "\\x4g") ≡ None
  pub trailing : unescaped (codes "a\\") ≡ None

pub record KeyFieldExamples : Type 0 where
  pub nothing : key_field [] ≡ []
  pub plain : key_field (codes "a#") ≡ codes "a#"
  pub hash : key_field (codes "#") ≡ codes "\\x23"
  pub more : key_field (codes "#a #\\") ≡ codes "\\x23a #\\\\"
  pub escape : key_field (codes "\t#") ≡ codes "\\t#"
  pub line : text_line (codes "#a", codes "#") ≡ codes "\\x23a\t#\n"
  pub no_bytes : text_line ([], []) ≡ codes "\t\n"
  pub empty_line : is_passed_over [] ≡ true
  pub comment : is_passed_over (codes "# a\tb") ≡ true
  pub space : is_passed_over (codes " # a") ≡ false
  pub tab : is_passed_over (codes "\t") ≡ false
  pub marked_hash : is_passed_over (codes "\\x23a\t") ≡ false

pub record TextLineExamples : Type 0 where
  pub pair : pair_of_text_line (codes "a b\t\\t") ≡ Some (codes "a b", codes "\t")
  pub no_content : pair_of_text_line (codes "k\t") ≡ Some (codes "k", [])
  pub no_key : pair_of_text_line (codes "\t") ≡ Some ([], [])
  pub bad_key : pair_of_text_line (codes "\\q\tc") ≡ None
  pub bad_content : pair_of_text_line (codes "k\t\\") ≡ None
  pub one_field : pair_of_text_line (codes "k") ≡ None
  pub three_fields : pair_of_text_line (codes "k\tc\t") ≡ None
  pub empty_line : pair_of_text_line [] ≡ None
  pub no_pairs : text_dump_of empty ≡ []
  pub dump : text_dump_of two_pairs ≡ codes "a\\xff\t\\x01\nb\t\n"
  pub listing : text_listing_of two_pairs ≡ codes "a\\xff\nb\n"

-- a line of 266,240 bytes may say a pair, and one of more says none
pub record LongTextLines : Type 0 where
  pub longest : (line : List ℕ) → length line ≤ 266240
      → pair_of_text_line line ≡ pair_of_fields (fields_in line)
  pub longer : (line : List ℕ) → 266240 < length line → pair_of_text_line line ≡ None
