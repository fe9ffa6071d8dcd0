use Rattle.std.proofs.Common.{rules}
use Rattle.dbm_tool.proofs.program.tell_misuse.Goals as goal

pub returns-clause-status : goal.returns-clause-status
returns-clause-status c = search rules
