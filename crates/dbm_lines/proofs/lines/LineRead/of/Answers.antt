use Rattle.std.proofs.Common.{rules}
use Rattle.dbm_lines.proofs.lines.LineRead.of.Goals as goal

pub returns-in-true-false : goal.returns-in-true-false
returns-in-true-false c = search rules
