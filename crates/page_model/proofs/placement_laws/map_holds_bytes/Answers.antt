use Rattle.page_model.proofs.Members.{map_holds_bytes}
use Rattle.page_model.proofs.placement_laws.map_holds_bytes.Goals as goal

pub returns : goal.returns
returns _ = map_holds_bytes
