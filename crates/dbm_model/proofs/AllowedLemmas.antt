-- Which pairs are allowed.
use Rattle.std.proofs.Common.{⊎_elim, ◌+◌, Bool, length, ap, arith}
use Rattle.std.specs.Prelude.{nat_le, ◌&&◌, ◌||◌}
use Rattle.std.proofs.lemmas.Bool.{leb-true, ltb-true, le-ltb, or_cases, and_parts}
use Rattle.dbm_model.specs.AllowedPairs.{AllowedGrows, FirstIsNear, FarIsBounded}

pub allowed_grows : AllowedGrows
allowed_grows pair near =
    ap (λ b. b || (nat_le (length pair.0) 1023 && nat_le (length pair.1) 65535)) near

pub first_is_near : FirstIsNear
first_is_near pair near = le-ltb 2026 (length pair.0 + length pair.1)
    (leb-true (length pair.0 + length pair.1) 2026 near)

pub far_is_bounded : FarIsBounded
far_is_bounded pair allowed far =
    let near : Bool = nat_le (length pair.0 + length pair.1) 2026 in
    let short : Bool = nat_le (length pair.0) 1023 in
    let few : Bool = nat_le (length pair.1) 65535 in
    let more = ltb-true 2026 (length pair.0 + length pair.1) far in
    ⊎_elim
    (λ is. absurd (let less = leb-true (length pair.0 + length pair.1) 2026 is in omega arith))
    (λ is. let both = and_parts short few is in
    (leb-true (length pair.0) 1023 both.0, leb-true (length pair.1) 65535 both.1))
    (or_cases near (short && few) allowed)
