use Rattle.page_io.proofs.Meanings.{one_meaning}
use Rattle.page_io.proofs.laws.images_have_one_meaning.Goals as goal

pub returns : goal.returns
returns _ = one_meaning
