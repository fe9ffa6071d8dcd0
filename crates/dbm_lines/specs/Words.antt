-- Byte strings as words of a text.
use Rattle.std.specs.Prelude.{ℕ, List, [], ◌∷◌, Option, Some, None, codes, if◌then◌else◌}
use Rattle.std.specs.Result.{result_ok}
use Rattle.std.specs.Str.{bytes_eq}
use Rattle.hex.specs.Hex.{encode_lower, decode_of}

-- `.` for no bytes, else two hexadecimal digits a byte, in lower case
abbrev pub word_of : List ℕ → List ℕ
word_of [] = codes "."
word_of (byte ∷ bytes) = encode_lower (byte ∷ bytes)

-- hexadecimal digits in pairs, of either case
abbrev pub decoded : List ℕ → Option (List ℕ)
decoded [] = None
decoded (digit ∷ digits) = result_ok (decode_of (digit ∷ digits))

-- the bytes that a word stands for, if it is one
abbrev pub word_bytes : List ℕ → Option (List ℕ)
word_bytes word = if bytes_eq word (codes ".") then Some [] else decoded word
