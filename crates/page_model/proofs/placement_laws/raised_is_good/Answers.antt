use Rattle.page_model.proofs.Stores as lemmas
use Rattle.page_model.proofs.placement_laws.raised_is_good.Goals as goal

pub returns : goal.returns
returns c = lemmas.raised_is_good
