-- How often the device below a database has failed.
use Rattle.std.specs.Prelude.{ℕ, ◌+◌, ◌-◌, ◌^◌, ◌≤◌, min}

-- the count of faults rose, unless it stands at its greatest value
abbrev pub MoreFaults : ℕ → ℕ → Type 0
MoreFaults before now = min (before + 1) (2 ^ 64 - 1) ≤ now

-- counts that rose, and counts that did not, also at the greatest value
pub record FaultCountExamples : Type 0 where
  pub first : MoreFaults 0 1
  pub several : MoreFaults 3 7
  pub stayed : MoreFaults 3 3 → ⊥
  pub fell : MoreFaults 3 2 → ⊥
  pub last : MoreFaults (2 ^ 64 - 2) (2 ^ 64 - 1)
  pub greatest : MoreFaults (2 ^ 64 - 1) (2 ^ 64 - 1)
  pub below : MoreFaults (2 ^ 64 - 1) (2 ^ 64 - 2) → ⊥
