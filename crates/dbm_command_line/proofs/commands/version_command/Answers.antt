use Rattle.dbm_command_line.proofs.commands.version_command.Goals as goal

pub returns : goal.returns
returns c = c.file_command.ensures
