use Rattle.page_model.proofs.Stores.{split_keeps}
use Rattle.page_model.proofs.placement_laws.split_keeps.Goals as goal

pub returns : goal.returns
returns _ = split_keeps
