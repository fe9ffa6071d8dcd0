use Rattle.std.proofs.Common.{rules}
use Rattle.dbm_rehearse.proofs.stopping.Rehearsal.make_stops.Goals as goal

pub loop-i-init : goal.loop-i-init
loop-i-init g c = search rules

pub returns-clause-sizes : goal.returns-clause-sizes
returns-clause-sizes g c = search rules
