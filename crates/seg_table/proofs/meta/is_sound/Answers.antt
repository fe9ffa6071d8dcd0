use Rattle.std.proofs.Common.{rules}
use Rattle.seg_table.proofs.meta.is_sound.Goals as goal

-- every test but the last is true
pub returns-then-has_ends : goal.returns-then-has_ends
returns-then-has_ends c = search rules
