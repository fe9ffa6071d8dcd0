use Rattle.dbm_model.proofs.HoldingLemmas.{stays_within}
use Rattle.dbm_model.proofs.call_laws.bounds_are_kept.Goals as goal

pub returns : goal.returns
returns c = stays_within
