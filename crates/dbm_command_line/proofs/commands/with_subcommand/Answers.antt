use Rattle.std.proofs.Common.{IfOk, subst}
use Rattle.std.proofs.lemmas.Result.{IfOk-weaker}
use Rattle.dbm_command_line.specs.Building.{IsApp, alone}
use Rattle.dbm_command_line.proofs.Building.{with_line}
use Rattle.dbm_command_line.proofs.commands.with_subcommand.Goals as goal

pub returns : goal.returns
returns c app line was given =
    IfOk-weaker c.subcommand.result _ _
    (λ new add. with_line c.in_ok-command.field-0 c.in_ok-line.field-0 new app line
    (subst (λ r. IfOk r (λ old. IsApp old app)) c.in_ok-command.was was)
    (subst (λ r. IfOk r (λ sub. IsApp sub (alone line))) c.in_ok-line.was given) add)
    c.subcommand.ensures
