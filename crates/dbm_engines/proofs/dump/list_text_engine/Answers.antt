use Rattle.std.proofs.Common.{rules}
use Rattle.dbm_engines.proofs.dump.list_text_engine.Goals as goal

pub returns : goal.returns
returns g c = search rules
