use Rattle.std.proofs.Common.{rules}
use Rattle.dbm_lines.proofs.forms.pair_in_form.Goals as goal

pub returns-in-Escaped : goal.returns-in-Escaped
returns-in-Escaped c = search rules
