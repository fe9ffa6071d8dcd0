use Rattle.dbm_command_line.specs.Building.{alone}
use Rattle.dbm_command_line.specs.CommandLine.{file_line, text_rule}
use Rattle.dbm_command_line.proofs.Building.{option_added}
use Rattle.dbm_command_line.proofs.commands.text_command.Goals as goal

pub returns : goal.returns
returns c =
    option_added c.in_ok-file_command.field-0 c.text_form.result c.arg.result
    (alone (file_line c.args.name.now)) text_rule c.in_ok-file_command.ensures
    c.text_form.ensures c.arg.ensures
