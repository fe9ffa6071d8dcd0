use Rattle.dbm_sharing.proofs.ReplyLemmas.{periods_tell_the_map, replies_are_of_the_map, fetches_tell_the_map}
use Rattle.dbm_sharing.proofs.sharing_laws.replies_are_of_the_map.Goals as goal

pub returns : goal.returns
returns c = record {
  left = periods_tell_the_map;
  replies = replies_are_of_the_map;
  fetches = fetches_tell_the_map;
}
