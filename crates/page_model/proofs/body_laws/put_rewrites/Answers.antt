use Rattle.page_model.proofs.Frames.{put_rewrites}
use Rattle.page_model.proofs.body_laws.put_rewrites.Goals as goal

pub returns : goal.returns
returns _ = put_rewrites
