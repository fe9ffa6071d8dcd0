use Rattle.std.proofs.Common.{rules}
use Rattle.sect_dev.proofs.file_dev.FileDev.last_error.Goals as goal

pub returns : goal.returns
returns c = search rules
