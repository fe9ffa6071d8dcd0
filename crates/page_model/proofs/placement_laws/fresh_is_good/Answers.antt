use Rattle.page_model.proofs.Stores.{fresh_is_good}
use Rattle.page_model.proofs.placement_laws.fresh_is_good.Goals as goal

pub returns : goal.returns
returns _ = fresh_is_good
