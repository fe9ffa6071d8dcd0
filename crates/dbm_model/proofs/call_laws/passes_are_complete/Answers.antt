use Rattle.dbm_model.proofs.PassLemmas.{passes_complete, empty_ends_at_once}
use Rattle.dbm_model.proofs.call_laws.passes_are_complete.Goals as goal

pub returns-clause-complete : goal.returns-clause-complete
returns-clause-complete c = passes_complete

pub returns-clause-at_once : goal.returns-clause-at_once
returns-clause-at_once c = empty_ends_at_once
