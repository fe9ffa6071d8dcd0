-- Pairs of a key and a content, and the map that a database holds.
use Rattle.std.specs.Prelude.{◌≡◌, ℕ, ◌+◌, Bool, true, List, length, nat_le, nat_lt, ◌&&◌, ◌||◌}
use Rattle.std.specs.FinMap.{FinMap, from_entries}
use Rattle.std.specs.Cmp.Lexicographic.{slice_cmp}
use Rattle.std.specs.Ordering.{nat_cmp}
use Rattle.std.specs.declared.cmp.Ordering.{Ordering}
use Rattle.dbm_model.specs.Bounds.{Version, V1, V2}

-- any bytes, also none
abbrev pub Key : Type 0
Key = List ℕ

-- a key and its content (POSIX: a datum each)
abbrev pub Pair : Type 0
Pair = List ℕ × List ℕ

-- keys are compared byte by byte
abbrev pub key_cmp : Key → Key → Ordering
key_cmp = slice_cmp nat_cmp

-- a finite map from keys to contents
abbrev pub Contents : Type 0
Contents = FinMap key_cmp (List ℕ)

-- the map of a list of pairs
abbrev pub contents_of : List Pair → Contents
contents_of = from_entries

-- a key and a content of such lengths have at most 2,026 bytes together
abbrev pub are_near : ℕ → ℕ → Bool
are_near key content = nat_le (key + content) 2026

-- they are allowed: near ones in each version, and in version 2 a key of at most 1,023 bytes with a
-- content of at most 65,535
abbrev pub are_allowed : Version → ℕ → ℕ → Bool
are_allowed V1 key content = are_near key content
are_allowed V2 key content = are_near key content || (nat_le key 1023 && nat_le content 65535)

abbrev pub is_allowed : Version → Pair → Bool
is_allowed version pair = are_allowed version (length pair.0) (length pair.1)

abbrev pub IsAllowed : Version → Pair → Type 0
IsAllowed version pair = is_allowed version pair ≡ true

-- it isn't near: its content lies in pages of its own
abbrev pub is_far : Pair → Bool
is_far pair = nat_lt 2026 (length pair.0 + length pair.1)
