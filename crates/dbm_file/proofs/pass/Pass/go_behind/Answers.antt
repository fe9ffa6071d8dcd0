use Rattle.std.proofs.Common.{rules}
use Rattle.dbm_file.proofs.pass.Pass.go_behind.Goals as goal

pub returns-in-Behind-self : goal.returns-in-Behind-self
returns-in-Behind-self c = search rules

pub returns-in_default-self : goal.returns-in_default-self
returns-in_default-self c = search rules
