use Rattle.std.proofs.Common.{sym, ◌∙◌}
use Rattle.dbm_lines.proofs.DigitPairs.{block_is_bytes, block_is_none}
use Rattle.dbm_lines.proofs.digits.bytes_of.Goals as goal

pub returns-then-not-are_values : goal.returns-then-not-are_values
returns-then-not-are_values c =
    block_is_none _ c.args.digits c.fits-digits.0 c.value_of_each-values.ensures
    (sym c.are_values.ensures ∙ c.if-not-are_values.true)

pub returns : goal.returns
returns c =
    block_is_bytes _ c.args.digits c.fits-digits.0 c.value_of_each-values.ensures
    (sym c.are_values.ensures ∙ c.if-not-are_values.false)
