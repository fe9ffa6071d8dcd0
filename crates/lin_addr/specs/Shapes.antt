-- A shape of the code as one of the model.
use Rattle.std.specs.Prelude.{◌≡◌, ℕ, ◌+◌, ◌^◌, ◌<◌, ◌≤◌, Bool, if◌then◌else◌}
use Rattle.page_model.specs.Address as model
use Rattle.page_model.specs.Address.{address, grown}
use Rattle.lin_addr.specs.declared.growth.Shape.{Shape}

abbrev pub shape_of : Shape → model.Shape
shape_of s = record { level = s.level; split = s.split }

-- numbers that a shape may have
abbrev pub CanBe : ℕ → ℕ → Type 0
CanBe level split = (level ≤ 16) × (split < 2 ^ level)

-- a hash of the bucket that is split belongs to the new bucket, or stays
abbrev pub BelongsTo : model.Shape → ℕ → Bool → Type 0
BelongsTo s hash goes_up = address s hash ≡ s.split
    → address (grown s) hash ≡ (if goes_up then s.split + 2 ^ s.level else s.split)
