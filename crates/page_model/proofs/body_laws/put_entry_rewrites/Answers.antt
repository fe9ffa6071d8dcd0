use Rattle.page_model.proofs.Frames as lemmas
use Rattle.page_model.proofs.body_laws.put_entry_rewrites.Goals as goal

pub returns : goal.returns
returns c = lemmas.put_entry_rewrites
