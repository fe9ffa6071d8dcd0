use Rattle.std.proofs.Common.{rules}
use Rattle.dbm_command_line.proofs.options.optional.Goals as goal

pub returns : goal.returns
returns c = search rules
