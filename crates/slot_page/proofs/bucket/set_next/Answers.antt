use Rattle.std.proofs.Common.{arith}
use Rattle.slot_page.proofs.Pages.{own_kept}
use Rattle.slot_page.proofs.Adding.{next_is}
use Rattle.slot_page.proofs.bucket.set_next.Goals as goal

pub returns : goal.returns
returns c =
    let both = next_is c.args.page.now.bytes c.set_u32_at.new.self.bytes c.args.next (omega arith)
    c.requires c.set_u32_at.ensures in
    record {
      page = both.0;
      says = both.1;
      own =
          own_kept c.args.page.now.bytes c.set_u32_at.new.self.bytes c.args.next both.1;
    }
