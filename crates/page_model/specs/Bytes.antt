-- Bytes and the big-endian numbers that they spell.
use Rattle.std.specs.Prelude.{ℕ, ◌+◌, ◌*◌, List, ◌++◌, length, slice_index, take, drop}
use Rattle.std.specs.Int.{w16, w32, to_be_bytes}

-- the big-endian number in the two bytes at `at`
abbrev pub u16_at : List ℕ → ℕ → ℕ
u16_at bytes at = slice_index bytes at * 256 + slice_index bytes (at + 1)

-- the big-endian number in the four bytes at `at`
abbrev pub u32_at : List ℕ → ℕ → ℕ
u32_at bytes at = u16_at bytes at * 65536 + u16_at bytes (at + 2)

-- the bytes of a number, the highest first
abbrev pub u16_bytes : ℕ → List ℕ
u16_bytes n = to_be_bytes w16 n

abbrev pub u32_bytes : ℕ → List ℕ
u32_bytes n = to_be_bytes w32 n

-- `old` with `new` written over it from `at` on
abbrev pub overwrite : List ℕ → ℕ → List ℕ → List ℕ
overwrite old at new = take at old ++ (new ++ drop (at + length new) old)
