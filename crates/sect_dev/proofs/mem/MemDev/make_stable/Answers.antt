use Rattle.std.proofs.Common.{rules}
use Rattle.sect_dev.proofs.mem.MemDev.make_stable.Goals as goal

pub invariant_of-self : goal.invariant_of-self
invariant_of-self c = search rules
