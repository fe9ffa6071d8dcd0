use Rattle.std.proofs.Common.{rules}
use Rattle.dbm_lines.proofs.DigitRuns.{block_read, block_refused, blocks_read}
use Rattle.dbm_lines.proofs.digits.decode.Goals as goal

pub returns-in_default : goal.returns-in_default
returns-in_default c =
    block_refused c.args.digits.now c.loop-block.block _ c.loop-block-test.true c.requires _
    c.in_default.ensures c.loop-block.invariant

pub loop-block-preserved : goal.loop-block-preserved
loop-block-preserved c =
    block_read c.args.digits.now c.loop-block.block _ c.loop-block-test.true c.requires _ _
    c.loop-block.auto.bytes (search rules) c.in-Some.ensures c.loop-block.invariant

pub returns-then-at-bytes : goal.returns-then-at-bytes
returns-then-at-bytes c =
    blocks_read c.args.digits.now c.loop-block.bytes _ (search rules) (search rules)
    c.loop-block.invariant
