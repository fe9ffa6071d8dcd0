-- Byte strings as fields of a text for people.
use Rattle.std.specs.Prelude.{ℕ, ◌==◌, ◌&&◌, Bool, true, nat_le, nat_lt, List, [], ◌∷◌, ◌++◌, length, flat_map, Option, Some, None, option_and_then, codes, if◌then◌else◌}
use Rattle.std.specs.List.{slice_split}
use Rattle.std.specs.Option.{option_map}
use Rattle.hex.specs.Hex.{encode_lower}
use Rattle.dbm_model.specs.Pairs.{Pair}
use Rattle.dbm_lines.specs.Words.{decoded}

-- a byte of a field: `\\`, `\t`, `\n`, a printable one as it is, and `\xhh` in lower case for any
-- other
abbrev pub escape_of : ℕ → List ℕ
escape_of byte =
    if byte == 92 then codes "\\\\"
    else if byte == 9 then codes "\\t"
    else if byte == 10 then codes "\\n"
    else if nat_le 32 byte && nat_le byte 126 then byte ∷ []
    else codes "\\x" ++ encode_lower (byte ∷ [])

abbrev pub escaped : List ℕ → List ℕ
escaped bytes = flat_map escape_of bytes

-- a field whose first byte is written as `\xhh`
abbrev pub marked : List ℕ → List ℕ
marked [] = []
marked (byte ∷ rest) = codes "\\x" ++ encode_lower (byte ∷ []) ++ escaped rest

-- the field of a key at the head of a line: where the key begins with `#`, that byte is `\x23`
abbrev pub key_field : List ℕ → List ℕ
key_field [] = []
key_field (byte ∷ rest) = if byte == 35 then marked (byte ∷ rest) else escaped (byte ∷ rest)

-- one behind the other, where both are there
abbrev pub joined : Option (List ℕ) → Option (List ℕ) → Option (List ℕ)
joined first rest = option_and_then (λ front. option_map (λ bytes. front ++ bytes) rest) first

-- what a letter behind a backslash stands for
abbrev pub letter_bytes : ℕ → Option (List ℕ)
letter_bytes letter =
    if letter == 92 then Some (92 ∷ [])
    else if letter == 116 then Some (9 ∷ [])
    else if letter == 110 then Some (10 ∷ [])
    else None

-- the bytes that a field stands for, if it is one; a byte that no backslash begins is itself
abbrev mutual
  pub unescaped : List ℕ → Option (List ℕ)
  unescaped [] = Some []
  unescaped (byte ∷ rest) =
      if byte == 92 then behind_backslash rest else joined (Some (byte ∷ [])) (unescaped rest)

  pub behind_backslash : List ℕ → Option (List ℕ)
  behind_backslash [] = None
  behind_backslash (letter ∷ rest) =
      if letter == 120 then behind_x rest else joined (letter_bytes letter) (unescaped rest)

  -- two hexadecimal digits, of either case
  pub behind_x : List ℕ → Option (List ℕ)
  behind_x [] = None
  behind_x (high ∷ []) = None
  behind_x (high ∷ low ∷ rest) = joined (decoded (high ∷ low ∷ [])) (unescaped rest)

-- a line that a load passes over: it is empty, or begins with `#`
abbrev pub is_passed_over : List ℕ → Bool
is_passed_over [] = true
is_passed_over (byte ∷ rest) = byte == 35

-- the fields of a line stand one tab apart
abbrev pub fields_in : List ℕ → List (List ℕ)
fields_in line = slice_split (λ byte. byte == 9) line

-- `key content`, a tab between them
abbrev pub pair_of_fields : List (List ℕ) → Option Pair
pair_of_fields (key ∷ content ∷ []) =
    option_and_then (λ k. option_map (λ c. (k, c)) (unescaped content)) (unescaped key)
pair_of_fields _ = None

-- the bytes that a line of two fields may have
abbrev pub longest_text_line : ℕ
longest_text_line = 266240

-- the pair that a line of fields says, if it is no bad line
abbrev pub pair_of_text_line : List ℕ → Option Pair
pair_of_text_line line =
    if nat_lt longest_text_line (length line) then None else pair_of_fields (fields_in line)
