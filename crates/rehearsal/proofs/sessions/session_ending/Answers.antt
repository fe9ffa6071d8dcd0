use Rattle.std.proofs.Common.{rules}
use Rattle.rehearsal.proofs.sessions.session_ending.Goals as goal

pub returns-in-Err-Broken-default-clause-broke : goal.returns-in-Err-Broken-default-clause-broke
returns-in-Err-Broken-default-clause-broke c = search rules

pub returns-in_default-Err : goal.returns-in_default-Err
returns-in_default-Err c = search rules

pub returns-in_default-Err-Broken-clause-broke_group : goal.returns-in_default-Err-Broken-clause-broke_group
returns-in_default-Err-Broken-clause-broke_group c = search rules

pub returns-in_default-Ok-clause-rested : goal.returns-in_default-Ok-clause-rested
returns-in_default-Ok-clause-rested c = search rules
