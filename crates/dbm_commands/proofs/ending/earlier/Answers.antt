use Rattle.std.proofs.Common.{rules}
use Rattle.dbm_commands.proofs.ending.earlier.Goals as goal

pub returns-clause-refused : goal.returns-clause-refused
returns-clause-refused c = search rules
