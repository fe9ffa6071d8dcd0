use Rattle.std.proofs.Common.{rules}
use Rattle.dbm_tool.proofs.program.failure_status.Goals as goal

pub returns-in-Fault : goal.returns-in-Fault
returns-in-Fault c = search rules

pub returns-in-NotHex : goal.returns-in-NotHex
returns-in-NotHex c = search rules
