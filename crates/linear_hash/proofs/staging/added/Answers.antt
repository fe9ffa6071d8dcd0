use Rattle.std.proofs.Common.{rules}
use Rattle.linear_hash.proofs.staging.added.Goals as goal

pub returns-else-was_there : goal.returns-else-was_there
returns-else-was_there c = search rules
