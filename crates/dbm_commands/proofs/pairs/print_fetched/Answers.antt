use Rattle.std.proofs.Common.{rules}
use Rattle.dbm_commands.proofs.pairs.print_fetched.Goals as goal

pub returns-in-Err-print_content-clause-told : goal.returns-in-Err-print_content-clause-told
returns-in-Err-print_content-clause-told c = search rules

pub returns-in-Ok-None-clause-told : goal.returns-in-Ok-None-clause-told
returns-in-Ok-None-clause-told c = search rules
