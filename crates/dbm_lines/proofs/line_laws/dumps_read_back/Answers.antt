use Rattle.dbm_lines.proofs.Dumps.{dumps_say}
use Rattle.dbm_lines.proofs.PairLines.{lines_read}
use Rattle.dbm_lines.proofs.line_laws.dumps_read_back.Goals as goal

pub returns : goal.returns
returns c = record {
  say = dumps_say;
  read = lines_read;
}
