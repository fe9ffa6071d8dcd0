-- The hash with all bits set above those that decide its bucket.
use Rattle.std.proofs.Common.{◌≡◌, ℕ, ◌+◌, ◌*◌, ◌-◌, ◌/◌, ◌%◌, ◌^◌, ◌<◌, ◌≤◌, sym, ap, ◌∙◌, arith, mod-lt, bit_or}
use Rattle.std.proofs.Math.Nat.{mul-sub, mul_comm}
use Rattle.std.proofs.lemmas.Nat.{pow_pos, pow-add, or_comm, or_shifted, div-mul-add, mod-mul-add}
use Rattle.std.proofs.lemmas.Nat.Bits.{ones_shl}
use Rattle.dbm_model.specs.KeyOrder.{rank}
use Rattle.lin_addr.proofs.Ranks.{highest_rank}

less_one : (a b : ℕ) → (a - 1) * b ≡ a * b - b
less_one a b = mul_comm (a - 1) b ∙ mul-sub b a 1 ∙ omega arith

product : (w : ℕ) → w ≤ 32 → 2 ^ 32 - 2 ^ w ≡ (2 ^ (32 - w) - 1) * 2 ^ w
product w within =
    let all : 2 ^ 32 ≡ 2 ^ (32 - w) * 2 ^ w =
    ap (λ x. 2 ^ x) (let sum : 32 ≡ 32 - w + w = omega arith in sum) ∙ pow-add 2 (32 - w) w in
    omega (arith, less_one (2 ^ (32 - w)) (2 ^ w))

-- b with all bits above its lowest w set
filled : (w b : ℕ) → w ≤ 32 → b < 2 ^ w
    → bit_or b ((2 ^ 32 - 1) * 2 ^ w % 2 ^ 32) ≡ (2 ^ (32 - w) - 1) * 2 ^ w + b
filled w b within low =
    ap (λ x. bit_or b x) (ones_shl 32 w within ∙ product w within)
    ∙ or_comm b ((2 ^ (32 - w) - 1) * 2 ^ w) ∙ or_shifted (2 ^ (32 - w) - 1) w b low

pub fits_width : (w b : ℕ) → b % 2 ^ w ≡ b → b < 2 ^ w
fits_width w b whole = omega (arith, mod-lt b (pow_pos w), whole)

module _ (w b : ℕ) (within : w ≤ 32) (low : b < 2 ^ w) where
  -- which leaves the low bits
  pub filled_low : bit_or b ((2 ^ 32 - 1) * 2 ^ w % 2 ^ 32) % 2 ^ w ≡ b
  filled_low =
      ap (λ x. x % 2 ^ w) (filled w b within low) ∙ mod-mul-add (2 ^ (32 - w) - 1) (2 ^ w) b low

  -- and has the greatest rank of all with these
  pub filled_rank : (h : ℕ) → h % 2 ^ w ≡ b
      → rank h ≤ rank (bit_or b ((2 ^ 32 - 1) * 2 ^ w % 2 ^ 32))
  filled_rank h like =
      highest_rank w (32 - w) (bit_or b ((2 ^ 32 - 1) * 2 ^ w % 2 ^ 32)) h (omega arith)
      (like ∙ sym filled_low)
      (ap (λ x. x / 2 ^ w) (filled w b within low)
      ∙ div-mul-add (2 ^ (32 - w) - 1) (2 ^ w) b low)
