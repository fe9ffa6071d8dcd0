use Rattle.std.proofs.Common.{rules}
use Rattle.dbm_file.proofs.octets.OctetsFromVecU8.from.Goals as goal

pub returns : goal.returns
returns c = search rules
