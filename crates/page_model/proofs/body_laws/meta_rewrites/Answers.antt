use Rattle.page_model.proofs.Extensions.{meta_rewrites}
use Rattle.page_model.proofs.body_laws.meta_rewrites.Goals as goal

pub returns : goal.returns
returns _ = meta_rewrites
