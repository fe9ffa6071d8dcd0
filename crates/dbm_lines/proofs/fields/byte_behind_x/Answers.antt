use Rattle.std.proofs.Common.{rules}
use Rattle.dbm_lines.proofs.fields.byte_behind_x.Goals as goal

pub returns-in-None-clause-bytes : goal.returns-in-None-clause-bytes
returns-in-None-clause-bytes c = search rules
