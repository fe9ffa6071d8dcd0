use Rattle.std.proofs.Common.{true}
use Rattle.clap.specs.Words.{Rule, new_rule}
use Rattle.dbm_command_line.specs.Building.{IsRule}
use Rattle.dbm_command_line.specs.CommandLine.{word_rule}
use Rattle.dbm_command_line.proofs.Building.{with_help, with_required, with_value_name}
use Rattle.dbm_command_line.proofs.arguments.word.Goals as goal

pub returns : goal.returns
returns c =
    let named : Rule = record (new_rule c.args.id.now) { value_names = 1 } in
    let shown : IsRule c.value_name.result named =
    with_value_name c.new.result c.value_name.result (new_rule c.args.id.now)
    (rw c.value_name.ensures) (rw c.value_name.ensures)
    (record { shape = c.new.ensures.rule; local = c.new.ensures.optional.1 }) in
    let required : IsRule c.required.result (word_rule c.args.id.now) =
    with_required true c.value_name.result c.required.result named c.required.ensures shown in
    with_help c.required.result c.help.result (word_rule c.args.id.now) c.help.ensures required
