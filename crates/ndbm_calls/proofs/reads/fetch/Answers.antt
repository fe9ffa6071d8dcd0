use Rattle.std.proofs.Common.{◌∙◌}
use Rattle.dbm_model.specs.Calls.{Fetch}
use Rattle.ndbm_calls.proofs.Statuses.{read_back}
use Rattle.ndbm_calls.proofs.Told.{content_answered}
use Rattle.ndbm_calls.proofs.reads.fetch.Goals as goal

pub returns-clause-answered : goal.returns-clause-answered
returns-clause-answered g c =
    content_answered c.args.db.now c.fetch.follows.lender-at-none (Fetch c.args.key.now) _
    c.fetch.result _ (read_back c.give.result c.give.type_inv ∙ c.give.ensures.status)
    c.give.ensures.bytes c.fetch.follows.holds-at-none
