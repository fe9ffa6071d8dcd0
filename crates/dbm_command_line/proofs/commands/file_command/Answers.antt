use Rattle.std.proofs.Common.{codes}
use Rattle.clap.specs.Words.{App, new_app}
use Rattle.dbm_command_line.specs.Building.{IsApp}
use Rattle.dbm_command_line.specs.CommandLine.{word_rule}
use Rattle.dbm_command_line.proofs.Building.{option_added, with_about, with_after_help}
use Rattle.dbm_command_line.proofs.commands.file_command.Goals as goal

pub returns : goal.returns
returns c =
    let bare : App = new_app c.args.name.now in
    let about : IsApp c.about.result bare =
    with_about c.new.result c.about.result bare c.about.ensures
    (record { shape = c.new.ensures.app; local = c.new.ensures.local }) in
    let helped : IsApp c.after_help.result bare =
    with_after_help c.about.result c.after_help.result bare c.after_help.ensures about in
    option_added c.after_help.result c.word.result c.arg.result bare (word_rule (codes "file"))
    helped c.word.ensures c.arg.ensures
