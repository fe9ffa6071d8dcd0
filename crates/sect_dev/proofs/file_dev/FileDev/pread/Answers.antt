use Rattle.std.proofs.Common.{take}
use Rattle.sect_dev.specs.File.{Gave}
use Rattle.sect_dev.specs.FileHistory.{recorded_read}
use Rattle.sect_dev.proofs.Results.{if_ok_all}
use Rattle.sect_dev.proofs.file_dev.FileDev.pread.Goals as goal

pub returns-clause-gave : goal.returns-clause-gave
returns-clause-gave c =
    if_ok_all c.read_at.result (λ k. Gave c.args.self.now c.args.at (take k c.read_at.new.buf))
    (λ k. recorded_read c.args.self.now.file c.args.self.now.changes c.args.at
    (take k c.read_at.new.buf))
