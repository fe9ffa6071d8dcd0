use Rattle.std.proofs.Common.{rules}
use Rattle.dbm_engines.proofs.load.load_text_engine.Goals as goal

pub returns : goal.returns
returns c = search rules
