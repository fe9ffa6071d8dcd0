-- Which pairs are allowed, by lengths that are worked out by hand.
use Rattle.std.specs.Prelude.{◌≡◌, ◌≤◌, true, false, length}
use Rattle.dbm_model.specs.Bounds.{V1, V2}
use Rattle.dbm_model.specs.Pairs.{Pair, are_near, are_allowed, is_far, IsAllowed}

-- a key of one byte with 2,025 bytes is the longest near pair, and with 65,535 the longest of
-- version 2; a key of 1,023 bytes may have as many, one of 1,024 none that isn't near
pub record AllowedExamples : Type 0 where
  pub near : are_near 1 2025 ≡ true
  pub not_near : are_near 1 2026 ≡ false
  pub first_near : are_allowed V1 1 2025 ≡ true
  pub first_far : are_allowed V1 1 2026 ≡ false
  pub second_far : are_allowed V2 1 2026 ≡ true
  pub longest : are_allowed V2 1 65535 ≡ true
  pub too_long : are_allowed V2 1 65536 ≡ false
  pub longest_key : are_allowed V2 1023 65535 ≡ true
  pub key_near : are_allowed V2 1024 1002 ≡ true
  pub key_too_long : are_allowed V2 1024 1003 ≡ false
  pub near_key : are_allowed V2 2026 0 ≡ true

-- each pair of version 1 is one of version 2
abbrev pub AllowedGrows : Type 0
AllowedGrows = (pair : Pair) → IsAllowed V1 pair → IsAllowed V2 pair

-- in version 1 none is far, and in version 2 a far one has a short key
abbrev pub FirstIsNear : Type 0
FirstIsNear = (pair : Pair) → IsAllowed V1 pair → is_far pair ≡ false

abbrev pub FarIsBounded : Type 0
FarIsBounded = (pair : Pair) → IsAllowed V2 pair → is_far pair ≡ true
    → (length pair.0 ≤ 1023) × (length pair.1 ≤ 65535)
