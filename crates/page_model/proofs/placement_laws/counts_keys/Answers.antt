use Rattle.page_model.proofs.Stores.{counts_keys}
use Rattle.page_model.proofs.placement_laws.counts_keys.Goals as goal

pub returns : goal.returns
returns _ = counts_keys
