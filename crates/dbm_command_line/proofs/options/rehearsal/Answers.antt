use Rattle.std.proofs.Common.{rules}
use Rattle.dbm_command_line.proofs.options.rehearsal.Goals as goal

pub returns-in-Err-ScriptSource-clause-others : goal.returns-in-Err-ScriptSource-clause-others
returns-in-Err-ScriptSource-clause-others c = search rules

pub returns-in-Ok-clause-plan : goal.returns-in-Ok-clause-plan
returns-in-Ok-clause-plan c = search rules
