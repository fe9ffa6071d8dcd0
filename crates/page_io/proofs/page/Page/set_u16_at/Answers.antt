use Rattle.std.proofs.Common.{refl}
use Rattle.page_model.specs.Bytes.{u16_bytes}
use Rattle.page_io.proofs.Slices.{write_over}
use Rattle.page_io.proofs.page.Page.set_u16_at.Goals as goal

pub returns : goal.returns
returns c = write_over c.args.self.now.bytes c.write_u16.new.buf (u16_bytes c.args.value) c.args.at
    2 c.write_u16.ensures refl
