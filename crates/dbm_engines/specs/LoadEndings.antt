-- The bad line that ends a load, and why it does.
use Rattle.std.specs.Prelude.{◌≡◌, ℕ, ◌+◌, List, ◌∷◌, ◌++◌, length, Option, Some, Result, Err}
use Rattle.dbm_lines.specs.Lines.{lines_of}
use Rattle.dbm_lines.specs.BadLines.{IsBadBy}
use Rattle.dbm_lines.specs.declared.forms.TextForm.{TextForm}
use Rattle.dbm_engines.specs.declared.load_stop.LoadStop.{LoadStop}
use Rattle.dbm_engines.specs.declared.load_stop.LoadStop.TheVariants.{Bad}

-- the line of this number of a text, from 1
pub record IsLine (text : List ℕ) (number : ℕ) (line : List ℕ) : Type 0 where
  pub first : List (List ℕ)
  pub rest : List (List ℕ)
  pub lines : lines_of text ≡ first ++ line ∷ rest
  pub counted : number ≡ length first + 1

-- where it is told that this line is bad, that is why
abbrev pub IsBadFor : TextForm → List ℕ → Result Unit LoadStop → Type 0
IsBadFor form line (Err (Bad n why)) = IsBadBy form line why
IsBadFor form line result = Unit {0}

-- where a bad line ended the load, that is why it is bad
abbrev pub TellsWhy : TextForm → Result Unit LoadStop → Option (List ℕ) → Type 0
TellsWhy form (Err (Bad n why)) (Some text) =
    (line : List ℕ) × IsLine text n line × IsBadBy form line why
TellsWhy form result text = Unit {0}
