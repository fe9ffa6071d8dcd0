use Rattle.page_model.proofs.Versions as lemmas
use Rattle.page_model.proofs.body_laws.raised_rewrites.Goals as goal

pub returns : goal.returns
returns c = lemmas.raised_rewrites
