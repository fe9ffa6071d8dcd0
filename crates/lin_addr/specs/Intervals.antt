-- The buckets in the order of the ranks of their hashes.
use Rattle.std.specs.Prelude.{◌≡◌, ◌⊎◌, ℕ, ◌^◌, ◌<◌}
use Rattle.dbm_model.specs.KeyOrder.{rank}
use Rattle.page_model.specs.Address.{Shape, buckets, address}

-- each hash of bucket b has a lower rank than each of bucket c
abbrev pub Precedes : Shape → ℕ → ℕ → Type 0
Precedes s b c = (h g : ℕ) → h < 2 ^ 32 → g < 2 ^ 32 → address s h ≡ b → address s g ≡ c
    → rank h < rank g

-- each bucket has an interval of the ranks: a hash of a higher rank is in the same bucket, or in
-- one that the bucket precedes
abbrev pub AreIntervals : Shape → Type 0
AreIntervals s = (h g : ℕ) → h < 2 ^ 32 → g < 2 ^ 32 → rank h < rank g
    → (address s h ≡ address s g) ⊎ Precedes s (address s h) (address s g)

-- bucket 0 has the lowest ranks
abbrev pub BeginsWithZero : Shape → Type 0
BeginsWithZero s = (b : ℕ) → b < buckets s → (b ≡ 0) ⊎ Precedes s 0 b

-- the first of the buckets that bucket b precedes
pub record IsFollowing (s : Shape) (b next : ℕ) : Type 0 where
  pub there : next < buckets s
  pub behind : Precedes s b next
  pub first : (other : ℕ) → other < buckets s → Precedes s b other
      → (other ≡ next) ⊎ Precedes s next other

-- it precedes none
abbrev pub PrecedesNone : Shape → ℕ → Type 0
PrecedesNone s b = (other : ℕ) → other < buckets s → Precedes s b other → ⊥
