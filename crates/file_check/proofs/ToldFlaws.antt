-- What was told before, over a step that found nothing.
use Rattle.std.proofs.Common.{Option}
use Rattle.file_check.specs.Flaws.{IsTold}
use Rattle.file_check.specs.declared.flaws.Flaw.{Flaw}

-- what was told stays
abbrev pub Keeps : (Option Flaw → Type 0) → (Option Flaw → Type 0) → Type 0
Keeps before after = (told : Option Flaw) → before told → after told

pub kept_then : {damaged : Type 0} {before mid after : Option Flaw → Type 0} → Keeps before mid
    → IsTold damaged mid after → (damaged → ⊥) → Keeps before after
kept_then kept step not told was = step.none not told (kept told was)
