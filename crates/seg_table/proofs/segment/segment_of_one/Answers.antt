use Rattle.std.proofs.Common.{arith, replicate}
use Rattle.page_model.specs.Bytes.{u32_bytes}
use Rattle.seg_table.proofs.HeadTexts.{own_kept, fresh_said}
use Rattle.seg_table.proofs.segment.segment_of_one.Goals as goal

pub returns-clause-says : goal.returns-clause-says
returns-clause-says c = fresh_said c.plain-page.result.bytes c.set_u32_at.new.self.bytes c.args.n
    c.args.head (omega arith) c.requires (omega arith) c.plain-page.ensures c.set_u32_at.ensures

pub returns-clause-number : goal.returns-clause-number
returns-clause-number c = own_kept c.plain-page.result.bytes _ (replicate 2032 0)
    (u32_bytes c.args.head) c.args.n 16 (omega arith) c.plain-page.result.whole (omega arith)
    (omega arith) c.plain-page.ensures c.set_u32_at.ensures
