use Rattle.std.proofs.Common.{◌∙◌}
use Rattle.dbm_model.specs.Calls.{Store}
use Rattle.dbm_file.specs.Calls.{mode_of}
use Rattle.ndbm_calls.proofs.Statuses.{read_back}
use Rattle.ndbm_calls.proofs.Told.{store_answered}
use Rattle.ndbm_calls.proofs.changes.store.Goals as goal

pub returns-clause-answered : goal.returns-clause-answered
returns-clause-answered g c =
    store_answered c.args.db.now c.store.new.self
    (Store c.args.key.now c.args.content.now (mode_of c.args.mode)) _ c.store.result
    (read_back c.of_store.result c.of_store.type_inv ∙ c.of_store.ensures) c.store.ensures.step
    c.store.ensures.keeps
