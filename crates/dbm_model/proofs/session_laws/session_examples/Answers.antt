use Rattle.dbm_model.proofs.SessionExamples.{acknowledged, store_in_doubt, creation_in_doubt, emptying_in_doubt, wrong_sessions}
use Rattle.dbm_model.proofs.GroupExamples.{group_acknowledged, group_in_doubt, group_of_one_key, wrong_groups}
use Rattle.dbm_model.proofs.session_laws.session_examples.Goals as goal

pub returns : goal.returns
returns c = record {
  acknowledged = acknowledged;
  store = store_in_doubt;
  creation = creation_in_doubt;
  emptying = emptying_in_doubt;
  never = wrong_sessions;
  group = group_acknowledged;
  group_in_doubt = group_in_doubt;
  one_key = group_of_one_key;
  never_group = wrong_groups;
}
