use Rattle.dbm_command_line.proofs.commands.salvage_command.Goals as goal

pub returns : goal.returns
returns c = c.file_command.ensures
