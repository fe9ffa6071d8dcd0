use Rattle.std.proofs.Common.{arith}
use Rattle.page_io.proofs.mem_pages.MemPagesPageStore.capacity.Goals as goal

pub returns : goal.returns
returns c = omega (arith, c.len.ensures, c.args.self.now.pages.ok.0)
