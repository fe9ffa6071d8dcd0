use Rattle.std.proofs.Common.{◌≡◌, ℕ, zero, suc, ◌+◌, ◌*◌, ◌%◌, ◌^◌, ◌<◌, ◌⊎◌, ◌&&◌, true, false, cond, eqb, ltb, inl, inr, refl, ap, ◌∙◌, arith, add_comm, mod-lt}
use Rattle.std.specs.Int.{bit_at}
use Rattle.std.proofs.lemmas.Nat.{mod-pow-add, pow_pos}
use Rattle.std.proofs.lemmas.Nat.Bits.{bit_at-lt}
use Rattle.std.proofs.lemmas.Bool.Decides.{nat_tests}
use Rattle.std.proofs.lemmas.Bool.{eqb-true, eqb-false}
use Rattle.page_model.specs.Address.{address}
use Rattle.page_model.specs.PlacementLaws.{GrowingMovesOneBucket, AddressesAreBelow}

-- one bit more of a hash
pub wider : (c l : ℕ) → c % 2 ^ (l + 1) ≡ bit_at c l * 2 ^ l + c % 2 ^ l
wider c l = ap (λ k. c % 2 ^ k) (add_comm l 1) ∙ mod-pow-add c 1 l

by_bit : (b m x : ℕ) → b < 2 → ((b ≡ 0) × (b * m + x ≡ x)) ⊎ ((b ≡ 1) × (b * m + x ≡ m + x))
by_bit zero m x h = inl (refl, omega arith)
by_bit (suc zero) m x h = inr (refl, omega arith)
by_bit (suc (suc b)) m x h = absurd (omega arith)

-- w is the hash by one bit more
pub bit_cases : (c l : ℕ) → ((bit_at c l ≡ 0) × (c % 2 ^ (l + 1) ≡ c % 2 ^ l))
    ⊎ ((bit_at c l ≡ 1) × (c % 2 ^ (l + 1) ≡ 2 ^ l + c % 2 ^ l))
bit_cases c l = rw (wider c l) (by_bit (bit_at c l) (2 ^ l) (c % 2 ^ l) (bit_at-lt c l))

grown_on : (m x b p w : ℕ) → x < m → p + 1 < m → ((b ≡ 0) × (w ≡ x)) ⊎ ((b ≡ 1) × (w ≡ m + x)) →
    cond (ltb x (p + 1)) w x ≡ cond (eqb (cond (ltb x p) w x) p && eqb b 1) (p + m)
    (cond (ltb x p) w x)
grown_on m x b p w h k e = grind (arith, nat_tests)

grown_over : (m x b p w : ℕ) → x < m → p + 1 ≡ m → ((b ≡ 0) × (w ≡ x)) ⊎ ((b ≡ 1) × (w ≡ m + x)) →
    w ≡ cond (eqb (cond (ltb x p) w x) p && eqb b 1) (p + m) (cond (ltb x p) w x)
grown_over m x b p w h k e = grind (arith, nat_tests)

ltb_zero : (n : ℕ) → ltb n 0 ≡ false
ltb_zero n = grind (arith, nat_tests)

pub grown_address : GrowingMovesOneBucket
grown_address s c h =
    let x : c % 2 ^ s.level < 2 ^ s.level = mod-lt c (pow_pos s.level) in
    elim (eqb (s.split + 1) (2 ^ s.level)) as (λ t. eqb (s.split + 1) (2 ^ s.level) ≡ t →
    address (cond t (record { level = s.level + 1; split = 0 })
    (record { level = s.level; split = s.split + 1 })) c
    ≡ cond (eqb (address s c) s.split && eqb (bit_at c s.level) 1) (s.split + 2 ^ s.level)
    (address s c)) [
      | true ↦ λ t. ap (λ b. cond b (c % 2 ^ (s.level + 1 + 1)) (c % 2 ^ (s.level + 1)))
          (ltb_zero (c % 2 ^ (s.level + 1)))
          ∙ grown_over (2 ^ s.level) (c % 2 ^ s.level) (bit_at c s.level) s.split
          (c % 2 ^ (s.level + 1)) x (eqb-true _ _ t) (bit_cases c s.level)
      | false ↦ λ t. grown_on (2 ^ s.level) (c % 2 ^ s.level) (bit_at c s.level) s.split
          (c % 2 ^ (s.level + 1)) x (let ne : s.split + 1 ≡ 2 ^ s.level → ⊥ = eqb-false _ _ t in
          omega arith) (bit_cases c s.level)
    ] refl

below_on : (m x b p w : ℕ) → x < m → p < m → ((b ≡ 0) × (w ≡ x)) ⊎ ((b ≡ 1) × (w ≡ m + x))
    → cond (ltb x p) w x < m + p
below_on m x b p w h k e = grind (arith, nat_tests)

pub address_below : AddressesAreBelow
address_below s c h = below_on (2 ^ s.level) (c % 2 ^ s.level) (bit_at c s.level) s.split
    (c % 2 ^ (s.level + 1)) (mod-lt c (pow_pos s.level)) h (bit_cases c s.level)
