use Rattle.seg_table.proofs.PlacementHeads.{placements_heads}
use Rattle.seg_table.proofs.laws.placements_have_heads.Goals as goal

pub returns : goal.returns
returns _ = placements_heads
