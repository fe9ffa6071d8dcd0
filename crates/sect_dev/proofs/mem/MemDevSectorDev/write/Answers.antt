use Rattle.std.proofs.Common.{rules}
use Rattle.sect_dev.proofs.mem.MemDevSectorDev.write.Goals as goal

pub returns-clause-count : goal.returns-clause-count
returns-clause-count c = search rules
