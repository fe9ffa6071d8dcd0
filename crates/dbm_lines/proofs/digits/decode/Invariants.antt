use Rattle.std.proofs.Common.{◌≡◌, ◌*◌, Some, take, drop}
use Rattle.dbm_lines.specs.Escapes.{joined}
use Rattle.dbm_lines.proofs.DigitPairs.{pairs}
use Rattle.dbm_lines.proofs.digits.decode.Given as goal

abbrev pub invariant-loop-block : goal.invariant-loop-block
invariant-loop-block l =
    pairs l.digits
    ≡ joined (Some (take (16 * l.block) l.bytes)) (pairs (drop (2 * (16 * l.block)) l.digits))
