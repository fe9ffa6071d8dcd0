use Rattle.dbm_model.proofs.StayLemmas.{error_told, error_cleared, first_kept}
use Rattle.dbm_model.proofs.call_laws.first_fault_is_kept.Goals as goal

pub returns : goal.returns
returns c = record {
  told = error_told;
  cleared = error_cleared;
  kept = first_kept;
}
