use Rattle.dbm_model.proofs.RoomLemmas.{room_stays, room_examples}
use Rattle.dbm_model.proofs.call_laws.room_stays.Goals as goal

pub returns : goal.returns
returns c = record {
  stays = room_stays;
  examples = room_examples;
}
