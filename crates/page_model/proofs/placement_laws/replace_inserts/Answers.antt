use Rattle.page_model.proofs.Places.{replace_inserts}
use Rattle.page_model.proofs.placement_laws.replace_inserts.Goals as goal

pub returns : goal.returns
returns _ = replace_inserts
