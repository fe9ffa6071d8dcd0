-- A database as a text.
use Rattle.std.specs.Prelude.{ℕ, List, ◌∷◌, ◌++◌, flat_map}
use Rattle.std.specs.FinMap.{entries, keys}
use Rattle.dbm_lines.specs.Escapes.{escaped, key_field}
use Rattle.dbm_lines.specs.Lines.{with_line_feed}
use Rattle.dbm_model.specs.Pairs.{Pair, Contents}
use Rattle.dbm_lines.specs.Words.{word_of}

-- `key content`
abbrev pub dump_line : Pair → List ℕ
dump_line pair = with_line_feed (word_of pair.0 ++ 32 ∷ word_of pair.1)

-- the line of each pair, in ascending byte order of keys
abbrev pub dump_of : Contents → List ℕ
dump_of map = flat_map dump_line (entries map)

-- `key content` as fields, a tab between them
abbrev pub text_line : Pair → List ℕ
text_line pair = with_line_feed (key_field pair.0 ++ 9 ∷ escaped pair.1)

-- such a line of each pair, in that order
abbrev pub text_dump_of : Contents → List ℕ
text_dump_of map = flat_map text_line (entries map)

-- the keys alone as words, in that order
abbrev pub listing_of : Contents → List ℕ
listing_of map = flat_map (λ key. with_line_feed (word_of key)) (keys map)

-- and as fields
abbrev pub text_listing_of : Contents → List ℕ
text_listing_of map = flat_map (λ key. with_line_feed (escaped key)) (keys map)
