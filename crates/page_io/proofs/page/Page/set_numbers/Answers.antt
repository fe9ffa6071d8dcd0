use Rattle.std.proofs.Common.{◌+◌, ◌*◌, refl, arith}
use Rattle.page_io.proofs.PlainPages.{numbers_more}
use Rattle.page_io.proofs.page.Page.set_numbers.Goals as goal

pub loop-i-preserved : goal.loop-i-preserved
loop-i-preserved c = record {
  room = c.loop-i.invariant.room;
  written = numbers_more c.args.self.now.bytes c.loop-i.self.bytes c.set_u32_at.new.self.bytes
      c.args.numbers.now c.args.at c.loop-i.i (c.args.at + 4 * c.loop-i.i) _ c.loop-i.invariant.room
      (omega arith) c.loop-i.invariant.written refl refl c.set_u32_at.ensures;
}
