-- When a flaw is told.
use Rattle.std.specs.Prelude.{Option, Some}
use Rattle.file_check.specs.declared.flaws.Flaw.{Flaw}

-- where the file is found to be damaged a flaw was told, and else none was
pub record IsTold (damaged : Type 0) (before after : Option Flaw → Type 0) : Type 0 where
  pub flaw : damaged → (flaw : Flaw) × after (Some flaw)
  pub none : (damaged → ⊥) → (told : Option Flaw) → before told → after told
