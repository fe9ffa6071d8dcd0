-- Numbers of four bytes that stand one after the other.
use Rattle.std.specs.Prelude.{ℕ, zero, suc, ◌+◌, ◌^◌, ◌<◌, List, [], ◌∷◌, ◌++◌}
use Rattle.page_model.specs.Bytes.{u32_at, u32_bytes}

-- four bytes hold it
abbrev pub IsNumber : ℕ → Type 0
IsNumber n = n < 2 ^ 32

-- the bytes of numbers, one after the other
abbrev pub numbers_bytes : List ℕ → List ℕ
numbers_bytes [] = []
numbers_bytes (n ∷ ns) = u32_bytes n ++ numbers_bytes ns

-- so many numbers from the byte at `at` on
abbrev pub numbers_at : List ℕ → ℕ → ℕ → List ℕ
numbers_at bytes at zero = []
numbers_at bytes at (suc count) = u32_at bytes at ∷ numbers_at bytes (at + 4) count
