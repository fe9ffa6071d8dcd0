use Rattle.dbm_lines.proofs.DigitLanes.{block_digits, halved_small, masked_small}
use Rattle.dbm_lines.proofs.digits.digits_of.Goals as goal

pub digit_of_each-high-requires : goal.digit_of_each-high-requires
digit_of_each-high-requires c = halved_small c.args.block c.fits-block.0 c.fits-block.1

pub digit_of_each-low-requires : goal.digit_of_each-low-requires
digit_of_each-low-requires c = masked_small c.args.block c.fits-block.0

pub returns : goal.returns
returns c =
    block_digits c.args.block c.fits-block.0 _ _ c.digit_of_each-high.ensures
    c.digit_of_each-low.ensures
