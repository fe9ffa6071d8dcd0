use Rattle.std.proofs.Common.{codes}
use Rattle.dbm_command_line.specs.Building.{alone}
use Rattle.dbm_command_line.specs.CommandLine.{file_line, number_rule}
use Rattle.dbm_command_line.proofs.Building.{option_added}
use Rattle.dbm_command_line.proofs.commands.resize_command.Goals as goal

pub returns : goal.returns
returns c =
    option_added c.in_ok-file_command.field-0 c.number-limit.result c.arg.result
    (alone (file_line (codes "resize"))) (number_rule (codes "limit"))
    c.in_ok-file_command.ensures c.number-limit.ensures c.arg.ensures
