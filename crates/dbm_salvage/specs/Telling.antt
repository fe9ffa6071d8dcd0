-- What whoever is told of pages in trouble was told.
use Rattle.std.specs.Prelude.{◌≡◌, ℕ, List, ◌++◌, Option, Some, None}
use Rattle.dbm_salvage.specs.declared.trouble.Trouble.{Trouble}

-- where it is known what was told, these were told behind it
abbrev pub Tells : Option (List (ℕ × Trouble)) → Option (List (ℕ × Trouble)) → List (ℕ × Trouble)
    → Type 0
Tells None new troubles = Unit {0}
Tells (Some told) None troubles = ⊥
Tells (Some told) (Some now) troubles = now ≡ told ++ troubles
