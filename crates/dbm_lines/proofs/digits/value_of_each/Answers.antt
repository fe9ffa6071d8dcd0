use Rattle.dbm_lines.proofs.DigitLanes.{block_values}
use Rattle.dbm_lines.proofs.digits.value_of_each.Goals as goal

pub returns : goal.returns
returns c = block_values c.args.digits c.fits-digits
