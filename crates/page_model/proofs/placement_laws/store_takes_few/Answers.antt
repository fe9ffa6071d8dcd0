use Rattle.page_model.proofs.Ends.{store_takes_few}
use Rattle.page_model.proofs.placement_laws.store_takes_few.Goals as goal

pub returns : goal.returns
returns _ = store_takes_few
