use Rattle.page_model.proofs.GoodBodies.{bodies_valid}
use Rattle.page_model.proofs.body_laws.bodies_are_valid.Goals as goal

pub returns : goal.returns
returns _ = bodies_valid
