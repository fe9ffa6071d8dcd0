use Rattle.clap.specs.Words.{found_of}
use Rattle.dbm_command_line.proofs.Naming.{text_read}
use Rattle.dbm_command_line.proofs.options.text.Goals as goal

pub returns : goal.returns
returns c = text_read c.get_str.result (found_of c.args.options.now) c.args.id.now c.get_str.ensures
