use Rattle.page_model.proofs.Meaning.{pages_one_meaning}
use Rattle.page_model.proofs.body_laws.pages_have_one_meaning.Goals as goal

pub returns : goal.returns
returns _ = pages_one_meaning
