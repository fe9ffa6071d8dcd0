use Rattle.std.proofs.Common.{rules}
use Rattle.dbm_lines.proofs.replies.write_end.Goals as goal

pub returns : goal.returns
returns c = search rules
