use Rattle.page_io.proofs.Slices.{u16_front}
use Rattle.page_io.proofs.page.Page.u16_at.Goals as goal

pub returns : goal.returns
returns c = u16_front c.args.self.now.bytes c.args.at 2048 c.read_u16.result c.args.self.now.whole
    c.read_u16.ensures
