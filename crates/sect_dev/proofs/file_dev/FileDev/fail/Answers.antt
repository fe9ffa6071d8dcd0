use Rattle.std.proofs.Common.{rules}
use Rattle.sect_dev.proofs.file_dev.FileDev.fail.Goals as goal

pub invariant_of-self : goal.invariant_of-self
invariant_of-self c = search rules

pub returns-clause-cause : goal.returns-clause-cause
returns-clause-cause c = search rules

pub returns-clause-count : goal.returns-clause-count
returns-clause-count c = search rules
