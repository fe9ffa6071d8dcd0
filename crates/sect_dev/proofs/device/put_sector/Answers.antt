use Rattle.std.proofs.Common.{◌*◌, ◌+◌, ◌-◌, ◌∙◌, length, ap, arith}
use Rattle.sect_dev.proofs.Parts.{part_fits, put_here, put_after}
use Rattle.sect_dev.proofs.device.put_sector.Goals as goal

pub returns-clause-put : goal.returns-clause-put
returns-clause-put c =
    let at = 512 * c.args.k in
    let same = c.copy_from_slice.ensures.after in
    put_here c.args.bytes.now c.copy_from_slice.new.self c.args.k (at + 512 - at)
    (part_fits c.args.bytes.now c.args.k c.requires) (ap length same ∙ c.told-content) (omega arith)
    ∙ same

pub returns-clause-before : goal.returns-clause-before
returns-clause-before c j less =
    let at = 512 * c.args.k in
    put_after c.args.bytes.now c.copy_from_slice.new.self c.args.k (at + 512 - at)
    (part_fits c.args.bytes.now c.args.k c.requires)
    (ap length c.copy_from_slice.ensures.after ∙ c.told-content) (omega arith) j less
