use Rattle.page_model.proofs.Bodies.{body_is}
use Rattle.page_model.proofs.page_laws.reads_exactly.Goals as goal

pub returns : goal.returns
returns _ = λ s bytes h. body_is s.number bytes s.body h
