use Rattle.page_model.proofs.Stores.{store_stays_good}
use Rattle.page_model.proofs.placement_laws.store_stays_good.Goals as goal

pub returns : goal.returns
returns _ = store_stays_good
