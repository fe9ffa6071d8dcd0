use Rattle.std.proofs.Common.{◌∙◌, ap, take}
use Rattle.dbm_lines.proofs.DigitRuns.{front_written}
use Rattle.dbm_lines.proofs.digits.encode_last.Goals as goal

pub returns : goal.returns
returns c =
    c.copy_from_slice-2.ensures.after
    ∙ ap (take _) (rw c.copy_from_slice.ensures.after at c.digits_of.ensures)
    ∙ front_written c.args.bytes.now _ _ c.requires.fits
