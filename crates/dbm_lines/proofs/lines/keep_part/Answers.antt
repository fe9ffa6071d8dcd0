use Rattle.std.proofs.Common.{rules}
use Rattle.dbm_lines.proofs.lines.keep_part.Goals as goal

pub returns : goal.returns
returns c = search rules
