use Rattle.dbm_lines.proofs.TextScriptLemmas.{replies_are_apart}
use Rattle.dbm_lines.proofs.text_laws.replies_differ.Goals as goal

pub returns : goal.returns
returns c = replies_are_apart
