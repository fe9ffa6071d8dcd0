use Rattle.dbm_command_line.proofs.commands.delete_command.Goals as goal

pub returns : goal.returns
returns c = c.key_command.ensures
