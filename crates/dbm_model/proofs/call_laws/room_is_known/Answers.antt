use Rattle.std.proofs.Common.{refl}
use Rattle.dbm_model.proofs.RoomLemmas.{room_is_known, pages_are_bounded}
use Rattle.dbm_model.proofs.call_laws.room_is_known.Goals as goal

pub returns : goal.returns
returns c = record {
  known = room_is_known;
  bounded = pages_are_bounded;
  sizes = record {
    eight_pairs = refl;
    nine_pairs = refl;
    one_segment = refl;
    two_segments = refl;
    none = refl;
    least = refl;
    hundred = refl;
    largest = refl;
    too_many = refl;
    least_v2 = refl;
    hundred_v2 = refl;
    largest_v2 = refl;
  };
}
