use Rattle.page_model.proofs.GoodBodies.{pages_exactly}
use Rattle.page_model.proofs.body_laws.pages_read_exactly.Goals as goal

pub returns : goal.returns
returns _ = pages_exactly
