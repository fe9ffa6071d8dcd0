use Rattle.std.proofs.Common.{rules}
use Rattle.dbm_tool.proofs.rehearsals.verdict.Goals as goal

pub returns-in-Some : goal.returns-in-Some
returns-in-Some c = search rules
