use Rattle.std.proofs.Common.{[], ◌∷◌, codes}
use Rattle.std.proofs.lemmas.Result.{IfOk-from_err}
use Rattle.clap.specs.Words.{Rule, with_rule}
use Rattle.dbm_command_line.specs.Building.{IsApp, IsRule, alone}
use Rattle.dbm_command_line.specs.CommandLine.{create_line, file_line, number_rule, syncs_rule, version_rule}
use Rattle.dbm_command_line.proofs.Building.{option_added, with_default, with_option}
use Rattle.dbm_command_line.proofs.commands.create_command.Goals as goal

pub returns-in_err-file_command : goal.returns-in_err-file_command
returns-in_err-file_command c =
    IfOk-from_err c.from_residual.result (λ made. IsApp made (alone create_line))
    c.from_residual.ensures.0

pub returns-in_err-arg : goal.returns-in_err-arg
returns-in_err-arg c = IfOk-from_err c.from_residual-in_err-arg.result
    (λ made. IsApp made (alone create_line)) c.from_residual-in_err-arg.ensures.0

pub returns-in_err-arg-2 : goal.returns-in_err-arg-2
returns-in_err-arg-2 c = IfOk-from_err c.from_residual-in_err-arg-2.result
    (λ made. IsApp made (alone create_line)) c.from_residual-in_err-arg-2.ensures.0

pub returns : goal.returns
returns c =
    let with_value : Rule = record (number_rule (codes "limit")) {
      defaults =
          codes "1000000" ∷ [];
    } in
    let limit : IsRule c.default_value.result with_value =
    with_default (codes "1000000") c.number-limit.result c.default_value.result
    (number_rule (codes "limit")) (rw c.default_value.ensures) (rw c.default_value.ensures)
    c.number-limit.ensures in
    let with_limit : IsApp c.in_ok-arg.field-0
    (with_rule (alone (file_line (codes "create"))) with_value) =
    with_option c.in_ok-file_command.field-0 c.in_ok-arg.field-0 c.default_value.result
    (alone (file_line (codes "create"))) with_value c.in_ok-file_command.ensures
    limit c.in_ok-arg.ensures in
    let with_version : IsApp c.in_ok-arg-2.field-0 (with_rule
    (with_rule (alone (file_line (codes "create"))) with_value) version_rule) =
    with_option c.in_ok-arg.field-0 c.in_ok-arg-2.field-0 c.version.result
    (with_rule (alone (file_line (codes "create"))) with_value) version_rule with_limit
    c.version.ensures c.in_ok-arg-2.ensures in
    option_added c.in_ok-arg-2.field-0 c.syncs.result c.arg-3.result
    (with_rule (with_rule (alone (file_line (codes "create"))) with_value) version_rule) syncs_rule
    with_version c.syncs.ensures c.arg-3.ensures
