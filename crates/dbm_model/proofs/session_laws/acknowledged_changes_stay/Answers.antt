use Rattle.dbm_model.proofs.Ways.{changes_stay, one_in_doubt, prefix_is_left}
use Rattle.dbm_model.proofs.session_laws.acknowledged_changes_stay.Goals as goal

pub returns : goal.returns
returns c = record {
  stay = changes_stay;
  one = one_in_doubt;
  prefix = prefix_is_left;
}
