-- Openings that are tried again while another program has the file open.
use Rattle.std.specs.Prelude.{◌≡◌, ◌≤◌, ℕ, List, length, Some, Result, Ok, Err, IfErr}
use Rattle.std.specs.IoError.{error_kind}
use Rattle.std.specs.List.{All}
use Rattle.std.specs.declared.io.Error.{Error}
use Rattle.std.specs.declared.io.ErrorKind.TheVariants.{WouldBlock}
use Rattle.dbm_fault.specs.declared.fault.Fault.{Fault}
use Rattle.dbm_file.specs.declared.named.Refusal.{Refusal}

-- another program has the file open
abbrev pub IsLocked : Refusal → Type 0
IsLocked refusal =
    (error : Error) × (refusal.system ≡ Some error) × (error_kind error ≡ WouldBlock)

-- the opening was refused so
abbrev pub FindsLocked : {T : Type 0} → Result T Refusal → Type 0
FindsLocked opened = (refusal : Refusal) × (opened ≡ Err refusal) × IsLocked refusal

-- a refusal is told by its fault
abbrev pub answer_of : {T : Type 0} → Result T Refusal → Result T Fault
answer_of (Ok opened) = Ok opened
answer_of (Err refusal) = Err refusal.fault

-- The result is that of the last of some openings, of which each before the last found the file
-- locked. There are no more than `most` of those, and so many where the last found it locked too.
pub record EndsWaiting {T : Type 0} (Opening : Result T Refusal → Type 0) (most : ℕ)
    (result : Result T Refusal) : Type 0 where
  pub before : List (Result T Refusal)
  pub opened : All Opening before
  pub locked : All FindsLocked before
  pub few : length before ≤ most
  pub ended : Opening result
  pub patient : IfErr result (λ refusal. IsLocked refusal → length before ≡ most)
