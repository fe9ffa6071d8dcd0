use Rattle.std.proofs.Common.{codes}
use Rattle.clap.specs.Words.{App, new_app}
use Rattle.dbm_command_line.specs.Building.{IsApp}
use Rattle.dbm_command_line.proofs.Building.{with_about, with_after_help}
use Rattle.dbm_command_line.proofs.commands.faults_command.Goals as goal

pub returns : goal.returns
returns c =
    let bare : App = new_app (codes "faults") in
    let about : IsApp c.about.result bare =
    with_about c.new.result c.about.result bare c.about.ensures
    (record { shape = c.new.ensures.app; local = c.new.ensures.local }) in
    with_after_help c.about.result c.after_help.result bare c.after_help.ensures about
