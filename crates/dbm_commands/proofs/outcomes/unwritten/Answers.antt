use Rattle.std.proofs.Common.{rules}
use Rattle.dbm_commands.proofs.outcomes.unwritten.Goals as goal

pub returns : goal.returns
returns c = search rules
