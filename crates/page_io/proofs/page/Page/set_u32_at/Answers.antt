use Rattle.std.proofs.Common.{refl}
use Rattle.page_model.specs.Bytes.{u32_bytes}
use Rattle.page_io.proofs.Slices.{write_over}
use Rattle.page_io.proofs.page.Page.set_u32_at.Goals as goal

pub returns : goal.returns
returns c = write_over c.args.self.now.bytes c.write_u32.new.buf (u32_bytes c.args.value) c.args.at
    4 c.write_u32.ensures refl
