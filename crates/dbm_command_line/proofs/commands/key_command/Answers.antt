use Rattle.std.proofs.Common.{codes}
use Rattle.dbm_command_line.specs.Building.{alone}
use Rattle.clap.specs.Words.{with_rule}
use Rattle.dbm_command_line.specs.CommandLine.{file_line, hexadecimal_rule, word_rule}
use Rattle.dbm_command_line.proofs.Building.{option_added, with_option}
use Rattle.dbm_command_line.proofs.commands.key_command.Goals as goal

pub returns : goal.returns
returns c =
    let with_key = with_option c.in_ok-file_command.field-0 c.in_ok-arg.field-0 c.word.result
    (alone (file_line c.args.name.now)) (word_rule (codes "key")) c.in_ok-file_command.ensures
    c.word.ensures c.in_ok-arg.ensures in
    option_added c.in_ok-arg.field-0 c.hexadecimal.result c.arg-2.result
    (with_rule (alone (file_line c.args.name.now)) (word_rule (codes "key"))) hexadecimal_rule
    with_key c.hexadecimal.ensures c.arg-2.ensures
