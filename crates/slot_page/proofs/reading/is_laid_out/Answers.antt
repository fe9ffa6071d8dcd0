use Rattle.std.proofs.Common.{arith, rules}
use Rattle.slot_page.proofs.Layouts.{not_laid_out}
use Rattle.slot_page.proofs.reading.is_laid_out.Goals as goal

pub returns-then-low-gt-PAGE_LEN : goal.returns-then-low-gt-PAGE_LEN
returns-then-low-gt-PAGE_LEN c =
    ((λ e. absurd cc), λ h. absurd (not_laid_out c.args.page.now.bytes (omega arith) h.0))

pub returns : goal.returns
returns c = search rules
