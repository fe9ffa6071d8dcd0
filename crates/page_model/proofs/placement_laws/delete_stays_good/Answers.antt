use Rattle.page_model.proofs.Stores.{delete_stays_good}
use Rattle.page_model.proofs.placement_laws.delete_stays_good.Goals as goal

pub returns : goal.returns
returns _ = delete_stays_good
