use Rattle.dbm_command_line.proofs.commands.insert_command.Goals as goal

pub returns : goal.returns
returns c = c.pair_command.ensures
