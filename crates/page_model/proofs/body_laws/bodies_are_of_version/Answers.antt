use Rattle.page_model.proofs.Versions as lemmas
use Rattle.page_model.proofs.body_laws.bodies_are_of_version.Goals as goal

pub returns : goal.returns
returns c = lemmas.bodies_of_version
