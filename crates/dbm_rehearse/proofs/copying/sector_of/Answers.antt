use Rattle.std.proofs.Common.{refl}
use Rattle.dbm_rehearse.proofs.Copies.{sector_with}
use Rattle.dbm_rehearse.proofs.copying.sector_of.Goals as goal

pub returns : goal.returns
returns c = sector_with c.args.bytes.now _ c.copy_from_slice.new.self _ c.args.n c.min-begin.result
    c.min-filled.result c.min-begin.ensures refl c.min-filled.ensures
    c.copy_from_slice.ensures.after refl
