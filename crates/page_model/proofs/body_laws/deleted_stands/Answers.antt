use Rattle.page_model.proofs.Meaning.{deleted_stands}
use Rattle.page_model.proofs.body_laws.deleted_stands.Goals as goal

pub returns : goal.returns
returns _ = deleted_stands
