use Rattle.std.proofs.Common.{rules}
use Rattle.dbm_rehearse.proofs.finding.engine_fault_of.Goals as goal

pub returns-in-Memory : goal.returns-in-Memory
returns-in-Memory c = search rules
