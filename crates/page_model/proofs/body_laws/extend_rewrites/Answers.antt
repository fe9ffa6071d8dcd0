use Rattle.page_model.proofs.Extensions.{extend_rewrites}
use Rattle.page_model.proofs.body_laws.extend_rewrites.Goals as goal

pub returns : goal.returns
returns _ = extend_rewrites
