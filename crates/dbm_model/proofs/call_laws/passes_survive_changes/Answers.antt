use Rattle.dbm_model.proofs.AscentLemmas.{passes_ascend, none_given_twice}
use Rattle.dbm_model.proofs.PassLemmas.{lasting_are_given}
use Rattle.dbm_model.proofs.PassSteps.{given_are_there, refusal_keeps_pass, passes_stay}
use Rattle.dbm_model.proofs.call_laws.passes_survive_changes.Goals as goal

pub returns : goal.returns
returns c = record {
  lasting = lasting_are_given;
  ascending = passes_ascend;
  once = none_given_twice;
  there = given_are_there;
  refused = refusal_keeps_pass;
  stay = passes_stay;
}
