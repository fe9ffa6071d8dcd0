use Rattle.dbm_lines.proofs.EscapeLemmas.{printable}
use Rattle.dbm_lines.proofs.text_laws.fields_are_printable.Goals as goal

pub returns : goal.returns
returns c = printable
