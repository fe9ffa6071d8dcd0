use Rattle.dbm_model.proofs.StoreLemmas as lemmas
use Rattle.dbm_model.proofs.call_laws.stores_put_all.Goals as goal

pub returns : goal.returns
returns c = lemmas.stores_put_all
