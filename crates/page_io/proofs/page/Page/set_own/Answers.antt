use Rattle.std.proofs.Common.{◌∙◌, ap, arith}
use Rattle.page_io.specs.Page.{own_number}
use Rattle.page_io.proofs.Fields.{own_of_new}
use Rattle.page_io.proofs.page.Page.set_own.Goals as goal

pub returns-clause-bytes : goal.returns-clause-bytes
returns-clause-bytes c = c.set_u32_at.ensures

pub returns-clause-number : goal.returns-clause-number
returns-clause-number c =
    ap own_number c.set_u32_at.ensures
    ∙ own_of_new c.args.self.now.bytes c.args.own (omega (arith, c.args.self.now.whole))
    c.ranges.own.fits
