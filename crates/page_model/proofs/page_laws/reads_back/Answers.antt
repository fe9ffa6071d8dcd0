use Rattle.page_model.proofs.Bodies.{body_again}
use Rattle.page_model.proofs.page_laws.reads_back.Goals as goal

pub returns : goal.returns
returns _ = λ s h. body_again s.number s.body h
