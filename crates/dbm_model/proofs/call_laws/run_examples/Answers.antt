use Rattle.dbm_model.proofs.PassRuns.{passes_over_nothing, passes_on, passes_over_changes}
use Rattle.dbm_model.proofs.RunLemmas.{stores_and_deletes, stops_at_limit}
use Rattle.dbm_model.proofs.WrongRuns.{wrong_replies}
use Rattle.dbm_model.proofs.call_laws.run_examples.Goals as goal

pub returns : goal.returns
returns c = record {
  stores_and_deletes = stores_and_deletes;
  stops_at_limit = stops_at_limit;
  passes_over_nothing = passes_over_nothing;
  passes_on = passes_on;
  over_changes = passes_over_changes;
  never = wrong_replies;
}
