use Rattle.std.proofs.Common.{codes}
use Rattle.dbm_command_line.specs.Building.{alone}
use Rattle.dbm_command_line.specs.CommandLine.{file_line, word_rule}
use Rattle.dbm_command_line.proofs.Building.{option_added}
use Rattle.dbm_command_line.proofs.commands.backup_command.Goals as goal

pub returns : goal.returns
returns c =
    option_added c.in_ok-file_command.field-0 c.word.result c.arg.result
    (alone (file_line (codes "backup"))) (word_rule (codes "to"))
    c.in_ok-file_command.ensures c.word.ensures c.arg.ensures
