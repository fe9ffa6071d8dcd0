use Rattle.std.proofs.Common.{rules}
use Rattle.dbm_file.proofs.database.refuse.Goals as goal

pub returns-clause-flag : goal.returns-clause-flag
returns-clause-flag g c = search rules
