use Rattle.std.proofs.Common.{rules}
use Rattle.dbm_commands.proofs.pairs.delete_outcome.Goals as goal

pub returns-in-Ok-Absent : goal.returns-in-Ok-Absent
returns-in-Ok-Absent c = search rules
