use Rattle.page_model.proofs.Stores.{looks_in_one_chain}
use Rattle.page_model.proofs.placement_laws.looks_in_one_chain.Goals as goal

pub returns : goal.returns
returns _ = looks_in_one_chain
