use Rattle.std.proofs.Common.{refl}
use Rattle.sect_dev.proofs.fuse.AllAfterSchedule.LATE.Goals as goal

pub returns : goal.returns
returns c = refl
