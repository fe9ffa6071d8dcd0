use Rattle.std.proofs.Common.{rules}
use Rattle.dbm_tool.proofs.program.not_text.Goals as goal

pub returns-clause-line : goal.returns-clause-line
returns-clause-line c = search rules

pub returns-clause-status : goal.returns-clause-status
returns-clause-status c = search rules
