use Rattle.std.proofs.Common.{◌∙◌}
use Rattle.std.proofs.lemmas.Result.{on_ok_weaker}
use Rattle.sect_dev.specs.FileHistory.{history_of}
use Rattle.sect_dev.proofs.OneSector.{one_read}
use Rattle.sect_dev.proofs.file_dev.FileDevSectorDev.read.Goals as goal

pub returns-clause-content : goal.returns-clause-content
returns-clause-content c honest =
    let dev = c.args.self.now in
    on_ok_weaker c.read_run.result
    (one_read c.args.n c.read_run.new.out (c.read_run.auto.out ∙ c.told-out)
    ((history_of dev.file).seen dev.changes))
    (c.read_run.ensures.content honest)
