use Rattle.std.proofs.Common.{refl}
use Rattle.hex.proofs.OnLiterals.{hex_on_literals}
use Rattle.dbm_lines.proofs.text_laws.script_example.Goals as goal

pub returns : goal.returns
unfolding hex_on_literals
returns c = (refl, refl)
