use Rattle.std.proofs.Common.{rules}
use Rattle.lin_addr.proofs.growth.Shape.new.Goals as goal

pub returns-then-split-power-clause-found : goal.returns-then-split-power-clause-found
returns-then-split-power-clause-found c = search rules

pub returns-else-level-le16-clause-only : goal.returns-else-level-le16-clause-only
returns-else-level-le16-clause-only c = search rules
