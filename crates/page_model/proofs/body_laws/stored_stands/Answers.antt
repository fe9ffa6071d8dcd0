use Rattle.page_model.proofs.Meaning.{stored_stands}
use Rattle.page_model.proofs.body_laws.stored_stands.Goals as goal

pub returns : goal.returns
returns _ = stored_stands
