-- A refusal by one of a few faults.
use Rattle.std.specs.Prelude.{◌≡◌, ◌⊎◌, List, [], ◌∷◌, Result, IfErr}

abbrev pub IsAmong : {E : Type 0} → E → List E → Type 0
IsAmong fault [] = ⊥
IsAmong fault (one ∷ []) = fault ≡ one
IsAmong fault (one ∷ other ∷ others) = (fault ≡ one) ⊎ IsAmong fault (other ∷ others)

-- where a call was refused, it was by one of these
abbrev pub IsErrAmong : {T E : Type 0} → Result T E → List E → Type 0
IsErrAmong result faults = IfErr result (λ fault. IsAmong fault faults)
