use Rattle.std.proofs.Common.{codes}
use Rattle.dbm_command_line.specs.Building.{alone}
use Rattle.dbm_command_line.specs.CommandLine.{key_line, word_rule}
use Rattle.dbm_command_line.proofs.Building.{option_added}
use Rattle.dbm_command_line.proofs.commands.pair_command.Goals as goal

pub returns : goal.returns
returns c = option_added c.in_ok-key_command.field-0 c.word.result c.arg.result
    (alone (key_line c.args.name.now)) (word_rule (codes "content"))
    c.in_ok-key_command.ensures c.word.ensures c.arg.ensures
