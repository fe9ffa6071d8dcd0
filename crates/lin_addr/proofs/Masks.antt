-- Addresses by masks, and what one bucket more moves.
use Rattle.std.proofs.Common.{◌≡◌, ℕ, ◌+◌, ◌-◌, ◌/◌, ◌%◌, ◌^◌, ◌<◌, ◌≤◌, ◌⊎◌, ◌&&◌, cond, eqb, ltb, sym, ap, ap₂, ◌∙◌, arith, bit_and, eq-eqb, mod-lt}
use Rattle.std.specs.Int.{bit_at}
use Rattle.std.proofs.lemmas.Nat.{and_mask, pow_pos}
use Rattle.std.proofs.lemmas.Bool.Decides.{nat_tests}
use Rattle.page_model.specs.Address.{Shape, address, buckets, grown}
use Rattle.page_model.proofs.AddressLemmas.{bit_cases, grown_address}

pick_low : (m x b p w : ℕ) → x < m → p < m → ((b ≡ 0) × (w ≡ x)) ⊎ ((b ≡ 1) × (w ≡ m + x))
    → m + p - 1 < w → x ≡ cond (ltb x p) w x
pick_low m x b p w h k e l = grind (arith, nat_tests)

pick_high : (m x b p w : ℕ) → x < m → p < m → ((b ≡ 0) × (w ≡ x)) ⊎ ((b ≡ 1) × (w ≡ m + x))
    → w ≤ m + p - 1 → w ≡ cond (ltb x p) w x
pick_high m x b p w h k e l = grind (arith, nat_tests)

-- a mask is a remainder
masked : (hash power k : ℕ) → power ≡ 2 ^ k → bit_and hash (power - 1) ≡ hash % 2 ^ k
masked hash power k e = ap (λ n. bit_and hash (n - 1)) e ∙ and_mask hash k

module _ (s : Shape) (hash low high count : ℕ) (split_in : s.split < 2 ^ s.level)
    (is_low : low ≡ 2 ^ s.level) (is_high : high ≡ 2 ^ (s.level + 1))
    (is_count : count ≡ buckets s) where
  -- the wide mask gives no bucket
  pub narrow : count - 1 < bit_and hash (high - 1) → bit_and hash (low - 1) ≡ address s hash
  narrow above =
      let wide = masked hash high (s.level + 1) is_high in
      masked hash low s.level is_low
      ∙ pick_low (2 ^ s.level) (hash % 2 ^ s.level) (bit_at hash s.level) s.split
      (hash % 2 ^ (s.level + 1)) (mod-lt hash (pow_pos s.level)) split_in
      (bit_cases hash s.level) (omega (arith, wide, is_count, above))

  -- the wide mask gives the bucket
  pub broad : bit_and hash (high - 1) ≤ count - 1 → bit_and hash (high - 1) ≡ address s hash
  broad below =
      let wide = masked hash high (s.level + 1) is_high in
      wide
      ∙ pick_high (2 ^ s.level) (hash % 2 ^ s.level) (bit_at hash s.level) s.split
      (hash % 2 ^ (s.level + 1)) (mod-lt hash (pow_pos s.level)) split_in
      (bit_cases hash s.level) (omega (arith, wide, is_count, below))

-- what one bucket more moves
pub moved : (s t : Shape) → s.split < 2 ^ s.level → t ≡ grown s → (hash : ℕ) →
    address t hash ≡ cond (eqb (address s hash) s.split && eqb (bit_at hash s.level) 1)
    (s.split + 2 ^ s.level) (address s hash)
moved s t split_in e hash = ap (λ u. address u hash) e ∙ grown_address s hash split_in

-- the bit that says which of the two buckets has the hash
pub goes_up : (s : Shape) (hash : ℕ) → s.split < 2 ^ s.level → address s hash ≡ s.split →
    address (grown s) hash ≡ cond (eqb (bit_and (hash / 2 ^ s.level) 1) 1)
    (s.split + 2 ^ s.level) s.split
goes_up s hash split_in here =
    let bit : bit_at hash s.level ≡ bit_and (hash / 2 ^ s.level) 1 =
    sym (and_mask (hash / 2 ^ s.level) 1) in
    grown_address s hash split_in
    ∙ ap₂ (λ t a. cond (t && eqb (bit_at hash s.level) 1) (s.split + 2 ^ s.level) a)
    (eq-eqb (address s hash) s.split here) here
    ∙ ap (λ n. cond (eqb n 1) (s.split + 2 ^ s.level) s.split) bit
