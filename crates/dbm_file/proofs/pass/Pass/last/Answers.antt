use Rattle.std.proofs.Common.{rules}
use Rattle.dbm_file.proofs.pass.Pass.last.Goals as goal

pub returns-in-Behind : goal.returns-in-Behind
returns-in-Behind c = search rules
