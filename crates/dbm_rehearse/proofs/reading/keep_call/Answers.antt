use Rattle.std.proofs.Common.{rules}
use Rattle.dbm_rehearse.proofs.reading.keep_call.Goals as goal

pub returns-in-Ok-None-clause-line : goal.returns-in-Ok-None-clause-line
returns-in-Ok-None-clause-line g c = search rules
