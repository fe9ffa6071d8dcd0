use Rattle.std.proofs.Common.{length, refl}
use Rattle.page_io.proofs.Slices.{put_over}
use Rattle.page_io.proofs.page.Page.put.Goals as goal

pub returns : goal.returns
returns c = put_over c.args.self.now.bytes c.copy_from_slice.new.self c.args.from.now c.args.at
    (length c.args.from.now) c.copy_from_slice.ensures.after refl
