use Rattle.dbm_sharing.proofs.Going.{handles_go_on}
use Rattle.dbm_sharing.proofs.sharing_laws.handles_go_on.Goals as goal

pub returns : goal.returns
returns c = handles_go_on
