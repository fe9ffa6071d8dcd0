use Rattle.std.proofs.Common.{rules}
use Rattle.dbm_rehearse.proofs.copying.sectors_with.Goals as goal

pub returns-in-Ok-clause-all : goal.returns-in-Ok-clause-all
returns-in-Ok-clause-all c = search rules
