use Rattle.std.proofs.Common.{codes}
use Rattle.dbm_command_line.specs.Building.{alone}
use Rattle.dbm_command_line.specs.CommandLine.{file_line, syncs_rule}
use Rattle.dbm_command_line.proofs.Building.{option_added}
use Rattle.dbm_command_line.proofs.commands.upgrade_command.Goals as goal

pub returns : goal.returns
returns c =
    option_added c.in_ok-file_command.field-0 c.syncs.result c.arg.result
    (alone (file_line (codes "upgrade"))) syncs_rule c.in_ok-file_command.ensures c.syncs.ensures
    c.arg.ensures
