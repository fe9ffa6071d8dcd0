use Rattle.dbm_sharing.proofs.SharedChanges.{changes_are_shared}
use Rattle.dbm_sharing.proofs.sharing_laws.changes_are_shared.Goals as goal

pub returns : goal.returns
returns c = changes_are_shared
