use Rattle.dbm_lines.proofs.WordLemmas.{reads_back}
use Rattle.dbm_lines.proofs.text_laws.words_read_back.Goals as goal

pub returns : goal.returns
returns c = reads_back
