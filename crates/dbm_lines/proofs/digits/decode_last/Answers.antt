use Rattle.std.proofs.Common.{◌∙◌, ap, Some}
use Rattle.dbm_lines.proofs.DigitRuns.{last_read, last_refused}
use Rattle.dbm_lines.proofs.digits.decode_last.Goals as goal

pub returns-in_default : goal.returns-in_default
returns-in_default c =
    last_refused c.args.digits.now _ c.requires.fits c.requires.short
    (rw c.copy_from_slice.ensures.after at c.in_default.ensures)

pub returns : goal.returns
returns c =
    ap Some c.copy_from_slice-2.ensures.after
    ∙ last_read c.args.digits.now _ c.requires.fits c.requires.short c.in-Some.run'
    (rw c.copy_from_slice.ensures.after at c.in-Some.ensures)
