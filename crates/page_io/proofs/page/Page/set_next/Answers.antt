use Rattle.std.proofs.Common.{◌∙◌, ap, arith}
use Rattle.page_model.specs.Bytes.{u32_bytes}
use Rattle.page_io.specs.Page.{own_number}
use Rattle.page_io.proofs.Fields.{own_of_overwrite}
use Rattle.page_io.proofs.page.Page.set_next.Goals as goal

pub returns-clause-bytes : goal.returns-clause-bytes
returns-clause-bytes c = cc

pub returns-clause-number : goal.returns-clause-number
returns-clause-number c =
    ap own_number c.set_u32_at.ensures
    ∙ own_of_overwrite c.args.self.now.bytes (u32_bytes c.args.next) 8 (omega arith)
    (omega (arith, c.args.self.now.whole))
