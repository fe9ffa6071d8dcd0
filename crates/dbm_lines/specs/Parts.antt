-- A part of a line, as far as the reader's buffer has it.
use Rattle.std.specs.Prelude.{◌≡◌, ◌≢◌, ℕ, ◌+◌, ◌<◌, List, [], ◌++◌, length, take, drop, slice_index, Option, Some}
use Rattle.dbm_lines.specs.Reading.{line_bytes, after_line}
use Rattle.dbm_lines.specs.declared.lines.Part.{Part}
use Rattle.dbm_lines.specs.declared.lines.Part.TheVariants.{End, Whole, Begun}

-- none of the first n bytes is a line feed
abbrev pub HasNoFeed : List ℕ → ℕ → Type 0
HasNoFeed bytes n = (k : ℕ) → k < n → slice_index bytes k ≢ 10

-- of these bytes so many are the part, and those of the line are kept behind the old ones
abbrev pub IsPart : ℕ → List ℕ → Part → ℕ → List ℕ → List ℕ → Type 0
IsPart limit bytes End taken old new = (bytes ≡ []) × (taken ≡ 0) × (new ≡ take limit (old ++ []))
IsPart limit bytes (Whole followed) taken old new =
    (n : ℕ) × (taken ≡ n + 1) × (n < length bytes) × (slice_index bytes n ≡ 10)
    × HasNoFeed bytes n × (new ≡ take limit (old ++ take n bytes))
IsPart limit bytes Begun taken old new =
    (0 < length bytes) × (taken ≡ length bytes) × HasNoFeed bytes (length bytes)
    × (new ≡ take limit (old ++ bytes))

-- what the reading of a part takes from a text, and leaves
abbrev pub TakesPart : ℕ → List ℕ → Part → List ℕ → List ℕ → Option (List ℕ) → Type 0
TakesPart limit text End old new rest =
    (text ≡ []) × (new ≡ take limit (old ++ [])) × (rest ≡ Some [])
TakesPart limit text (Whole followed) old new rest =
    (0 < length text) × (new ≡ take limit (old ++ line_bytes text))
    × (rest ≡ Some (after_line text))
TakesPart limit text Begun old new rest =
    (n : ℕ) × (0 < length text) × (line_bytes text ≡ take n text ++ line_bytes (drop n text))
    × (after_line text ≡ after_line (drop n text)) × (new ≡ take limit (old ++ take n text))
    × (rest ≡ Some (drop n text))
