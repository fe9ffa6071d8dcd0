use Rattle.dbm_model.proofs.Ways.{ends_doubt, takes_nothing, leaves_both, group_leaves_both}
use Rattle.dbm_model.proofs.session_laws.doubt_is_settled.Goals as goal

pub returns : goal.returns
returns c = record {
  ends = ends_doubt;
  stays = takes_nothing;
  both = leaves_both;
  group = group_leaves_both;
}
