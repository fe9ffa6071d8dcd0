-- The order in which a pass gives the keys.
use Rattle.std.specs.Prelude.{◌≡◌, ℕ, ◌*◌, ◌%◌, ◌^◌, List, ◌∷◌, fold, bit_xor, codes}
use Rattle.std.specs.Int.{reverse_bits_onto}
use Rattle.std.specs.Cmp.Lexicographic.{slice_cmp}
use Rattle.std.specs.Ordering.{nat_cmp, on}
use Rattle.std.specs.declared.cmp.Ordering.{Ordering}
use Rattle.std.specs.declared.cmp.Ordering.TheVariants.{Less}
use Rattle.dbm_model.specs.Pairs.{Key}

-- the hash of a key: FNV-1a, 32 bits
unfoldable pub hash_of : List ℕ → ℕ
hash_of key = fold (λ hash byte. bit_xor hash byte * 16777619 % 2 ^ 32) 2166136261 key

-- the 32 bits of a hash in reverse order
abbrev pub rank : ℕ → ℕ
rank hash = reverse_bits_onto 32 hash 0

-- by the hash's bits from the lowest up, then by bytes
abbrev pub pass_cmp : Key → Key → Ordering
pass_cmp = on (λ key. rank (hash_of key) ∷ key) (slice_cmp nat_cmp)

abbrev pub ComesBefore : Key → Key → Type 0
ComesBefore key other = pass_cmp key other ≡ Less

-- two words with one hash come in the order of their bytes
pub record KeyOrderExamples : Type 0 where
  pub one_hash : hash_of (codes "costarring") ≡ hash_of (codes "liquid")
  pub by_bytes : ComesBefore (codes "costarring") (codes "liquid")
  pub not_back : ComesBefore (codes "liquid") (codes "costarring") → ⊥
