use Rattle.dbm_lines.proofs.TextScriptLemmas.{reply_fields}
use Rattle.dbm_lines.proofs.text_laws.replies_read_back.Goals as goal

pub returns : goal.returns
returns c = reply_fields
