use Rattle.dbm_lines.proofs.DigitRuns.{block_written}
use Rattle.std.proofs.Common.{◌∙◌, rules}
use Rattle.hex.proofs.Pairs.{encode_done}
use Rattle.hex.specs.Hex.{lower_digits}
use Rattle.dbm_lines.proofs.digits.encode.Goals as goal

pub loop-block-preserved : goal.loop-block-preserved
loop-block-preserved c =
    block_written c.args.bytes.now c.loop-block.digits _ c.loop-block.block c.loop-block-test.true
    (c.loop-block.auto.digits ∙ c.requires) c.digits_of.ensures c.loop-block.invariant

pub returns-else-at-bytes : goal.returns-else-at-bytes
returns-else-at-bytes c =
    encode_done lower_digits c.args.bytes.now c.loop-block.digits _ (search rules)
    (c.loop-block.auto.digits ∙ c.requires) c.loop-block.invariant
