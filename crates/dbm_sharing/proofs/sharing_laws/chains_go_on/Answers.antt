use Rattle.dbm_sharing.proofs.Going.{chains_join, chains_split}
use Rattle.dbm_sharing.proofs.sharing_laws.chains_go_on.Goals as goal

pub returns : goal.returns
returns c = record { join = chains_join; split = chains_split }
