use Rattle.dbm_lines.proofs.EscapeLemmas.{escapes_back}
use Rattle.dbm_lines.proofs.text_laws.escapes_read_back.Goals as goal

pub returns : goal.returns
returns c = escapes_back
