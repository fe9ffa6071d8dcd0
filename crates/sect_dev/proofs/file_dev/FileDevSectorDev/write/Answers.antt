use Rattle.std.proofs.Common.{rules}
use Rattle.sect_dev.proofs.file_dev.FileDevSectorDev.write.Goals as goal

pub returns-clause-goes : goal.returns-clause-goes
returns-clause-goes c = search rules
