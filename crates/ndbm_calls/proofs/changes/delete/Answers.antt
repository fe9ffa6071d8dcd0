use Rattle.std.proofs.Common.{◌∙◌}
use Rattle.dbm_model.specs.Calls.{Delete}
use Rattle.ndbm_calls.proofs.Statuses.{read_back}
use Rattle.ndbm_calls.proofs.Told.{delete_answered}
use Rattle.ndbm_calls.proofs.changes.delete.Goals as goal

pub returns-clause-answered : goal.returns-clause-answered
returns-clause-answered g c =
    delete_answered c.args.db.now c.delete.new.self (Delete c.args.key.now) _ c.delete.result
    (read_back c.of_delete.result c.of_delete.type_inv ∙ c.of_delete.ensures)
    c.delete.ensures.step c.delete.ensures.keeps
