use Rattle.page_model.proofs.AddressLemmas.{grown_address}
use Rattle.page_model.proofs.placement_laws.growing_moves_one_bucket.Goals as goal

pub returns : goal.returns
returns _ = grown_address
