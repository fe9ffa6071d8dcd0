use Rattle.dbm_model.proofs.CaseLemmas.{map_of_usable, bounds_of_usable}
use Rattle.dbm_model.proofs.call_laws.only_acknowledged_changes.Goals as goal

pub returns : goal.returns
returns c = record { map = map_of_usable; bounds = bounds_of_usable }
