use Rattle.std.proofs.Common.{◌≡◌, ◌*◌, ◌++◌, take, drop}
use Rattle.hex.specs.Hex.{encode_lower}
use Rattle.dbm_lines.proofs.digits.encode.Given as goal

abbrev pub invariant-loop-block : goal.invariant-loop-block
invariant-loop-block l =
    take (2 * (16 * l.block)) l.digits ++ encode_lower (drop (16 * l.block) l.bytes)
    ≡ encode_lower l.bytes
