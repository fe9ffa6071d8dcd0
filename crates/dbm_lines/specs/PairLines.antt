-- The pair that a line says.
use Rattle.std.specs.Prelude.{◌≡◌, ℕ, nat_lt, List, [], ◌∷◌, length, map, Option, Some, None, option_and_then, if◌then◌else◌}
use Rattle.std.specs.Option.{option_map}
use Rattle.dbm_lines.specs.Lines.{longest_line, words_in}
use Rattle.dbm_model.specs.Pairs.{Pair}
use Rattle.dbm_lines.specs.Words.{word_bytes}

-- `key content`
abbrev pub pair_of_words : List (List ℕ) → Option Pair
pair_of_words (key ∷ content ∷ []) =
    option_and_then (λ k. option_map (λ c. (k, c)) (word_bytes content)) (word_bytes key)
pair_of_words _ = None

-- the pair that a line says, if it is no bad line
abbrev pub pair_of_line : List ℕ → Option Pair
pair_of_line line =
    if nat_lt longest_line (length line) then None else pair_of_words (words_in line)

-- the lines say these pairs, one each, in order
abbrev pub Say : (List ℕ → Option Pair) → List (List ℕ) → List Pair → Type 0
Say pair_of lines pairs = map pair_of lines ≡ map Some pairs
