use Rattle.std.proofs.Common.{refl}
use Rattle.page_io.proofs.mem_pages.MemPagesPageStore.end.Goals as goal

pub returns : goal.returns
returns c = refl
