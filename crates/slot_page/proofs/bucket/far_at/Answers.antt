use Rattle.std.proofs.Common.{arith}
use Rattle.slot_page.proofs.Pages.{far_bytes}
use Rattle.slot_page.proofs.bucket.far_at.Goals as goal

pub read_u32-requires : goal.read_u32-requires
read_u32-requires c =
    let r = c.record_at-far.result in
    let long = far_bytes c.args.page.now.bytes r.0.now r.1.now c.args.i c.in_ok-long.long r.2
    c.requires.page c.requires.within c.record_at-far.ensures c.in_ok-long.was in
    omega arith
