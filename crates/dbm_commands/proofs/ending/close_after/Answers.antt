use Rattle.std.proofs.Common.{rules}
use Rattle.dbm_commands.proofs.ending.close_after.Goals as goal

pub returns-clause-cause : goal.returns-clause-cause
returns-clause-cause c = search rules
