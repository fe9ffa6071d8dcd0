use Rattle.page_model.proofs.Frames.{delete_rewrites}
use Rattle.page_model.proofs.body_laws.delete_rewrites.Goals as goal

pub returns : goal.returns
returns _ = delete_rewrites
