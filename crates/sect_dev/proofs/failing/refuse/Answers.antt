use Rattle.std.proofs.Common.{arith}
use Rattle.sect_dev.proofs.failing.refuse.Goals as goal

pub returns-clause-count : goal.returns-clause-count
returns-clause-count c = omega arith
