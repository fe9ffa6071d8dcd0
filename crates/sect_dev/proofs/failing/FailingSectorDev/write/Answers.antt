use Rattle.std.proofs.Common.{rules}
use Rattle.sect_dev.proofs.failing.FailingSectorDev.write.Goals as goal

pub returns-then-fails-2-clause-failed : goal.returns-then-fails-2-clause-failed
returns-then-fails-2-clause-failed g c = search rules

pub returns-then-fails-2-clause-time : goal.returns-then-fails-2-clause-time
returns-then-fails-2-clause-time g c = search rules

pub returns-then-fails-2-clause-step : goal.returns-then-fails-2-clause-step
returns-then-fails-2-clause-step g c = search rules

pub returns-then-fails-2-clause-passed_on : goal.returns-then-fails-2-clause-passed_on
returns-then-fails-2-clause-passed_on g c = search rules

pub returns-clause-time : goal.returns-clause-time
returns-clause-time g c = search rules

pub returns-clause-step : goal.returns-clause-step
returns-clause-step g c = search rules

pub returns-clause-quiet : goal.returns-clause-quiet
returns-clause-quiet g c = search rules
