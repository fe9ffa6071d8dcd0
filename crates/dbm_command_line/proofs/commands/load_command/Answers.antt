use Rattle.std.proofs.Common.{codes}
use Rattle.std.proofs.lemmas.Result.{IfOk-from_err}
use Rattle.clap.specs.Words.{with_rule}
use Rattle.dbm_command_line.specs.Building.{IsApp, alone}
use Rattle.dbm_command_line.specs.CommandLine.{group_rule, load_line, number_rule, pairs_line, replace_rule}
use Rattle.dbm_command_line.proofs.Building.{option_added, with_option}
use Rattle.dbm_command_line.proofs.commands.load_command.Goals as goal

pub returns-in_err-pairs_command : goal.returns-in_err-pairs_command
returns-in_err-pairs_command c =
    IfOk-from_err c.from_residual.result (λ made. IsApp made (alone load_line))
    c.from_residual.ensures.0

pub returns-in_err-arg : goal.returns-in_err-arg
returns-in_err-arg c = IfOk-from_err c.from_residual-in_err-arg.result
    (λ made. IsApp made (alone load_line)) c.from_residual-in_err-arg.ensures.0

pub returns-in_err-arg-2 : goal.returns-in_err-arg-2
returns-in_err-arg-2 c = IfOk-from_err c.from_residual-in_err-arg-2.result
    (λ made. IsApp made (alone load_line)) c.from_residual-in_err-arg-2.ensures.0

pub returns : goal.returns
returns c =
    let with_group : IsApp c.in_ok-arg.field-0
    (with_rule (alone (pairs_line (codes "load"))) group_rule) =
    with_option c.in_ok-pairs_command.field-0 c.in_ok-arg.field-0 c.group.result
    (alone (pairs_line (codes "load"))) group_rule c.in_ok-pairs_command.ensures
    c.group.ensures c.in_ok-arg.ensures in
    let with_replace : IsApp c.in_ok-arg-2.field-0
    (with_rule (with_rule (alone (pairs_line (codes "load"))) group_rule) replace_rule) =
    with_option c.in_ok-arg.field-0 c.in_ok-arg-2.field-0 c.replace.result
    (with_rule (alone (pairs_line (codes "load"))) group_rule) replace_rule with_group
    c.replace.ensures c.in_ok-arg-2.ensures in
    option_added c.in_ok-arg-2.field-0 c.number-limit.result c.arg-3.result
    (with_rule (with_rule (alone (pairs_line (codes "load"))) group_rule) replace_rule)
    (number_rule (codes "limit")) with_replace c.number-limit.ensures c.arg-3.ensures
