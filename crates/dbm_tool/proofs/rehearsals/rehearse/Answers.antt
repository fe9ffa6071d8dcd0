use Rattle.std.proofs.Common.{rules}
use Rattle.dbm_tool.proofs.rehearsals.rehearse.Goals as goal

pub returns-clause-told : goal.returns-clause-told
returns-clause-told g c = search rules
