use Rattle.std.proofs.Common.{rules}
use Rattle.dbm_commands.proofs.verifying.marks_of.Goals as goal

pub returns : goal.returns
returns c = search rules
