use Rattle.std.proofs.Common.{rules}
use Rattle.dbm_commands.proofs.ending.flush_after.Goals as goal

pub returns-clause-failed : goal.returns-clause-failed
returns-clause-failed c = search rules

pub returns-in_err-map_err-clause-failed : goal.returns-in_err-map_err-clause-failed
returns-in_err-map_err-clause-failed c = search rules
