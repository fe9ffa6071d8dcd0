use Rattle.dbm_lines.proofs.DigitLanes.{looked_up, places}
use Rattle.dbm_lines.proofs.digits.digit_of_each.Goals as goal

pub swizzle : goal.swizzle
swizzle c = places c.args.values c.fits-values.0 c.requires

pub returns : goal.returns
returns c = looked_up c.args.values c.fits-values.0 c.requires
