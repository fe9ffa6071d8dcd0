use Rattle.page_model.proofs.Meaning.{one_meaning}
use Rattle.page_model.proofs.body_laws.one_meaning.Goals as goal

pub returns : goal.returns
returns _ = one_meaning
