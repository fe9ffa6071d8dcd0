use Rattle.std.proofs.Common.{◌*◌, ◌+◌, ◌-◌, ◌∙◌, length, ap, arith}
use Rattle.commit_log.proofs.Words.{put_here, put_apart}
use Rattle.commit_log.proofs.spelling.put_sector.Goals as goal

pub returns-clause-put : goal.returns-clause-put
returns-clause-put c =
    let at = 512 * c.args.k in
    let same = c.copy_from_slice.ensures.after in
    put_here c.args.bytes.now c.copy_from_slice.new.self c.args.k (at + 512 - at)
    (omega arith) (ap length same ∙ c.told-content) (omega arith)
    ∙ same

pub returns-clause-others : goal.returns-clause-others
returns-clause-others c j less other =
    let at = 512 * c.args.k in
    put_apart c.args.bytes.now c.copy_from_slice.new.self c.args.k (at + 512 - at)
    (omega arith)
    (ap length c.copy_from_slice.ensures.after ∙ c.told-content) (omega arith) j
    (omega (arith, less, c.told-bytes)) other
