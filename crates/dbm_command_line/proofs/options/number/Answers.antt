use Rattle.clap.specs.Words.{found_of}
use Rattle.dbm_command_line.proofs.Naming.{number_read}
use Rattle.dbm_command_line.proofs.options.number.Goals as goal

pub returns : goal.returns
returns c = number_read c.get_one.result (found_of c.args.options.now) c.args.id.now
    c.get_one.ensures.none c.get_one.ensures.value
