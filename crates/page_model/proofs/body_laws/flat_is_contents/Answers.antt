use Rattle.page_model.proofs.Flat.{flat_is_contents}
use Rattle.page_model.proofs.body_laws.flat_is_contents.Goals as goal

pub returns : goal.returns
returns _ = flat_is_contents
