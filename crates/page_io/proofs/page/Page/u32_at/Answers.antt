use Rattle.page_io.proofs.Slices.{u32_front}
use Rattle.page_io.proofs.page.Page.u32_at.Goals as goal

pub returns : goal.returns
returns c = u32_front c.args.self.now.bytes c.args.at 2048 c.read_u32.result c.args.self.now.whole
    c.read_u32.ensures
