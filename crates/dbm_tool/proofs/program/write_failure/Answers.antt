use Rattle.std.proofs.Common.{rules}
use Rattle.dbm_tool.proofs.program.write_failure.Goals as goal

pub returns-in-Fault-Db : goal.returns-in-Fault-Db
returns-in-Fault-Db g c = search rules
