use Rattle.std.proofs.Common.{rules}
use Rattle.dbm_lines.proofs.fields.write_escape.Goals as goal

pub returns-in-9 : goal.returns-in-9
returns-in-9 c = search rules
