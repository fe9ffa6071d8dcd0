use Rattle.page_model.proofs.Splits.{pairs_allowed}
use Rattle.page_model.proofs.placement_laws.pairs_are_allowed.Goals as goal

pub returns : goal.returns
returns _ = pairs_allowed
