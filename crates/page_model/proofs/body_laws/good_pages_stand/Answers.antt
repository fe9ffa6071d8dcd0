use Rattle.page_model.proofs.Meaning.{good_pages_stand}
use Rattle.page_model.proofs.body_laws.good_pages_stand.Goals as goal

pub returns : goal.returns
returns _ = good_pages_stand
