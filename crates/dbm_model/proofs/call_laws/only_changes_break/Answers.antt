use Rattle.dbm_model.proofs.CaseLemmas.{breaks_by_change}
use Rattle.dbm_model.proofs.call_laws.only_changes_break.Goals as goal

pub returns : goal.returns
returns c = breaks_by_change
