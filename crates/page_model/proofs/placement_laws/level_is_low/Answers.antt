use Rattle.page_model.proofs.Bounds.{level_low}
use Rattle.page_model.proofs.placement_laws.level_is_low.Goals as goal

pub returns : goal.returns
returns _ = level_low
