-- The lines of a script that is read before its calls are made.
use Rattle.std.specs.Prelude.{◌≡◌, ℕ, List, [], ◌∷◌, ◌++◌, Option, Some, None}
use Rattle.std.specs.Io.KnownBytes.{Appends}
use Rattle.dbm_model.specs.Calls.{Call}
use Rattle.dbm_lines.specs.Lines.{bad_line}

-- the line that answers each bad line
abbrev pub bad_lines : List (Option Call) → List ℕ
bad_lines [] = []
bad_lines (None ∷ script) = bad_line ++ bad_lines script
bad_lines (Some call ∷ script) = bad_lines script

-- the call that a line asks for is the last one, or the line is bad and was answered
abbrev pub AddsLine : Option Call → List Call → List Call → Option (List ℕ) → Option (List ℕ)
    → Type 0
AddsLine None old new before after = (new ≡ old) × Appends before after bad_line
AddsLine (Some call) old new before after = (new ≡ old ++ call ∷ []) × (after ≡ before)
