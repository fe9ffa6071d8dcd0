use Rattle.std.proofs.Common.{arith}
use Rattle.std.proofs.lemmas.Grind.{common_steps}
use Rattle.dbm_lines.proofs.parsing.name_of.Goals as goal

pub returns-in-I : goal.returns-in-I
returns-in-I c = grind (arith, common_steps)
