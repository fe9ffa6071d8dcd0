use Rattle.std.proofs.Common.{rules}
use Rattle.dbm_rehearse.proofs.report.Rehearsed.add.Goals as goal

pub returns-then-eq-clause-counted : goal.returns-then-eq-clause-counted
returns-then-eq-clause-counted c = search rules

pub returns-then-is_none-clause-counted : goal.returns-then-is_none-clause-counted
returns-then-is_none-clause-counted c = search rules
