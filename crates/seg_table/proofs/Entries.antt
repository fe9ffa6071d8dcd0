-- Numbers of four bytes, by place.
use Rattle.std.proofs.Common.{◌≡◌, ℕ, zero, suc, ◌+◌, ◌*◌, ◌<◌, List, [], ◌∷◌, ◌++◌, get_or, ap, ◌∙◌, arith, add-one}
use Rattle.page_model.specs.Bytes.{u32_at}
use Rattle.page_model.specs.Numbers.{numbers_at}

-- number i of those from `at` on
pub get_or-numbers_at : (bytes : List ℕ) (count at i to : ℕ) → i < count → at + 4 * i ≡ to
    → get_or (numbers_at bytes at count) i 0 ≡ u32_at bytes to
get_or-numbers_at bytes zero at i to lt e = absurd (omega arith)
get_or-numbers_at bytes (suc count) at zero to lt e = ap (u32_at bytes) (omega arith)
get_or-numbers_at bytes (suc count) at (suc i) to lt e =
    get_or-numbers_at bytes count (at + 4) i to (omega arith) (omega arith)

numbers_at-suc : (bytes : List ℕ) (count at to : ℕ) → at + 4 * count ≡ to
    → numbers_at bytes at (suc count) ≡ numbers_at bytes at count ++ u32_at bytes to ∷ []
numbers_at-suc bytes zero at to e =
    ap (λ (k : ℕ). u32_at bytes k ∷ []) (let same : at ≡ to = omega arith in same)
numbers_at-suc bytes (suc count) at to e =
    ap (λ (ns : List ℕ). u32_at bytes at ∷ ns)
    (numbers_at-suc bytes count (at + 4) to (omega arith))

-- one more number
pub numbers_at-more : (bytes : List ℕ) (count at to : ℕ) → at + 4 * count ≡ to
    → numbers_at bytes at (count + 1) ≡ numbers_at bytes at count ++ u32_at bytes to ∷ []
numbers_at-more bytes count at to e =
    ap (numbers_at bytes at) (add-one count) ∙ numbers_at-suc bytes count at to e
