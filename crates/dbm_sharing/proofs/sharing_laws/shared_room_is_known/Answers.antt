use Rattle.dbm_sharing.proofs.Going.{shared_room}
use Rattle.dbm_sharing.proofs.sharing_laws.shared_room_is_known.Goals as goal

pub returns : goal.returns
returns c = shared_room
