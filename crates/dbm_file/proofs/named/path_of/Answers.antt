use Rattle.std.proofs.Common.{rules}
use Rattle.dbm_file.proofs.named.path_of.Goals as goal

pub returns : goal.returns
returns c = search rules
