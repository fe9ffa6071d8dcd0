use Rattle.std.proofs.Common.{refl}
use Rattle.sect_dev.proofs.mem.is_marked.Goals as goal

pub returns-then-i-keep : goal.returns-then-i-keep
returns-then-i-keep c = refl
