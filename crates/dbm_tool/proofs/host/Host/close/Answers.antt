use Rattle.std.proofs.Common.{rules}
use Rattle.dbm_tool.proofs.host.Host.close.Goals as goal

pub returns-clause-told : goal.returns-clause-told
returns-clause-told g c = search rules
