use Rattle.std.proofs.Common.{rules}
use Rattle.dbm_rehearse.proofs.reading.call_in.Goals as goal

pub returns-in-Insert : goal.returns-in-Insert
returns-in-Insert c = search rules
