-- That bytes are a bucket page is one fact at most, so a struct may have it.
use Rattle.std.proofs.Common.{◌≡◌, ◌⊎◌, inl, inr, ℕ, List, Option, Some, None, ap, arith}
use Rattle.std.proofs.Props.{props}
use mathlib.Core.HLevel.{Unit-prop}
use Rattle.dbm_model.specs.Bounds.{Version, V1, V2}
use Rattle.page_model.specs.Pages.{Record}
use Rattle.page_model.specs.Valid.{MayTell, IsOf}
use Rattle.page_io.specs.BucketPages.{IsPageOf}

is_number-prop : (k n : ℕ) → IsProp (k ≡ n)
is_number-prop k n = Prim.hlevel props

pub IsKind-prop : (k : ℕ) → IsProp ((k ≡ 3) ⊎ (k ≡ 4))
IsKind-prop k (inl a) (inl b) = ap inl (is_number-prop k 3 a b)
IsKind-prop k (inl a) (inr b) = absurd (omega (arith, a, b))
IsKind-prop k (inr a) (inl b) = absurd (omega (arith, a, b))
IsKind-prop k (inr a) (inr b) = ap inr (is_number-prop k 4 a b)

pub MayTell-prop : (r : Record) (far : Option ℕ) → IsProp (MayTell r far)
MayTell-prop r None = Unit-prop
MayTell-prop r (Some long) = Prim.hlevel props

pub IsOf-prop : (version : Version) (r : Record) → IsProp (IsOf version r)
IsOf-prop V1 r = Prim.hlevel props
IsOf-prop V2 r = Unit-prop

ruleset once = (IsKind-prop, MayTell-prop, IsOf-prop, props)

pub IsPageOf-prop : (version : Version) (bytes : List ℕ) → IsProp (IsPageOf version bytes)
IsPageOf-prop version bytes = Prim.hlevel once
