use Rattle.page_model.proofs.Places.{delete_removes}
use Rattle.page_model.proofs.placement_laws.delete_removes.Goals as goal

pub returns : goal.returns
returns _ = delete_removes
