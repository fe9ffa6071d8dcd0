use Rattle.dbm_lines.proofs.DigitLanes.{block_passes}
use Rattle.dbm_lines.proofs.digits.are_values.Goals as goal

pub returns : goal.returns
returns c = block_passes c.args.values c.fits-values.0
