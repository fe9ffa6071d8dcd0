use Rattle.dbm_model.proofs.SessionRooms.{sessions_keep_room, sessions_are_never_short}
use Rattle.dbm_model.proofs.session_laws.sessions_keep_room.Goals as goal

pub returns : goal.returns
returns c = record { keep = sessions_keep_room; short = sessions_are_never_short }
