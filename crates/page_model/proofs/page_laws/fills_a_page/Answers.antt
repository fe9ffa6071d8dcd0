use Rattle.page_model.proofs.Bodies.{length-spelling_of}
use Rattle.page_model.proofs.page_laws.fills_a_page.Goals as goal

pub returns : goal.returns
returns _ = λ s h. length-spelling_of s.number s.body h
