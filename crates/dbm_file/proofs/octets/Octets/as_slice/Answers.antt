use Rattle.std.proofs.Common.{rules}
use Rattle.dbm_file.proofs.octets.Octets.as_slice.Goals as goal

pub returns : goal.returns
returns c = search rules
