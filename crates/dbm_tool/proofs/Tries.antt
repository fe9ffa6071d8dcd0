-- Openings that are tried again.
use Rattle.std.proofs.Common.{◌≡◌, ◌≤◌, ◌+◌, ◌∙◌, ℕ, List, [], ◌∷◌, ◌++◌, length, Result, Err, IfErr, refl, ap, arith}
use Rattle.std.proofs.lemmas.List.{length_push}
use Rattle.std.proofs.lemmas.List.Elements.{All-push}
use Rattle.std.specs.List.{All}
use Rattle.dbm_file.specs.declared.named.Refusal.{Refusal}
use Rattle.dbm_tool.specs.Waiting.{EndsWaiting, FindsLocked, IsLocked}

-- so many openings, each of which found the file locked
abbrev pub HasWaited : {T : Type 0} → (Result T Refusal → Type 0) → ℕ → Type 0
HasWaited {T} Opening count =
    (before : List (Result T Refusal)) × All Opening before × All FindsLocked before
    × (length before ≡ count)

pub none_yet : {T : Type 0} (Opening : Result T Refusal → Type 0) → HasWaited Opening 0
none_yet Opening =
    ([], (λ at x below. absurd (omega (arith, below))), (λ at x below. absurd (omega (arith, below))), refl)

pub once_more : {T : Type 0} (Opening : Result T Refusal → Type 0) (count : ℕ) (refusal : Refusal)
    → HasWaited Opening count → Opening (Err refusal) → IsLocked refusal
    → HasWaited Opening (count + 1)
once_more Opening count refusal (before, went, locked, counted) opened is = (
  before ++ Err refusal ∷ [],
  All-push Opening before (Err refusal) went opened,
  All-push FindsLocked before (Err refusal) locked (refusal, refl, is),
  length_push before (Err refusal) ∙ ap (λ n. n + 1) counted,
)

pub ends_so : {T : Type 0} (Opening : Result T Refusal → Type 0) (most count : ℕ)
    (result : Result T Refusal) → HasWaited Opening count → count ≤ most → Opening result
    → IfErr result (λ refusal. IsLocked refusal → count ≡ most) → EndsWaiting Opening most result
ends_so Opening most count result (before, went, locked, counted) few ended patient = record {
  before = before;
  opened = went;
  locked = locked;
  few = rw counted few;
  ended = ended;
  patient = rw counted patient;
}
