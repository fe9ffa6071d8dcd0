use Rattle.std.proofs.Common.{rules}
use Rattle.dbm_commands.proofs.pairs.store_outcome.Goals as goal

pub returns-in-Ok-Kept : goal.returns-in-Ok-Kept
returns-in-Ok-Kept c = search rules
