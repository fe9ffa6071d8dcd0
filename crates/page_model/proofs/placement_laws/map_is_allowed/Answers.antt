use Rattle.page_model.proofs.Members.{map_is_allowed}
use Rattle.page_model.proofs.placement_laws.map_is_allowed.Goals as goal

pub returns : goal.returns
returns _ = map_is_allowed
