use Rattle.dbm_model.proofs.RefusalLemmas.{refuses_where_due}
use Rattle.dbm_model.proofs.RuleLemmas.{broken_refuses, reading_refuses, too_long_refused, insert_keeps, full_refused, absent_told}
use Rattle.dbm_model.proofs.call_laws.refusals_are_due.Goals as goal

pub returns : goal.returns
returns c = record {
  only = refuses_where_due;
  broken = broken_refuses;
  reading = reading_refuses;
  too_long = too_long_refused;
  kept = insert_keeps;
  full = full_refused;
  absent = absent_told;
}
