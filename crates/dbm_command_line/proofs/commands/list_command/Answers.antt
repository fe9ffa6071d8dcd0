use Rattle.std.proofs.Common.{codes}
use Rattle.std.proofs.lemmas.Result.{IfOk-from_err}
use Rattle.dbm_command_line.specs.Building.{IsApp, alone}
use Rattle.dbm_command_line.specs.CommandLine.{pairs_line}
use Rattle.dbm_command_line.proofs.Building.{with_usage}
use Rattle.dbm_command_line.proofs.commands.list_command.Goals as goal

pub returns-in_err-command : goal.returns-in_err-command
returns-in_err-command c = IfOk-from_err c.from_residual.result
    (λ made. IsApp made (alone (pairs_line (codes "list")))) c.from_residual.ensures.0

pub returns : goal.returns
returns c = with_usage c.in_ok-command.command c.override_usage.result
    (alone (pairs_line (codes "list"))) c.override_usage.ensures c.in_ok-command.ensures
