use Rattle.page_model.proofs.Bodies.{body_spelled}
use Rattle.page_model.proofs.page_laws.is_spelled.Goals as goal

pub returns : goal.returns
returns _ = λ n bytes ne. body_spelled n bytes ne
