use Rattle.page_model.proofs.Frames.{one_map}
use Rattle.page_model.proofs.body_laws.one_map.Goals as goal

pub returns : goal.returns
returns _ = one_map
