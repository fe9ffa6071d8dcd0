use Rattle.std.proofs.Common.{ℕ, subst}
use Rattle.sect_dev.specs.FileHistory.{HasBytes, history_of}
use Rattle.sect_dev.proofs.Parts.{run_of_bytes}
use Rattle.sect_dev.proofs.file_dev.FileDevSectorDev.read_run.Goals as goal

pub returns-in-Ok-clause-content : goal.returns-in-Ok-clause-content
returns-in-Ok-clause-content c honest =
    let dev = c.args.self.now in
    let image = (history_of dev.file).seen dev.changes in
    run_of_bytes image c.args.n c.fill.new.out (honest.kept.whole dev.changes)
    (subst (λ (at : ℕ). HasBytes image at c.fill.new.out) c.offset_of.ensures
    (c.in-Ok.ensures honest))
