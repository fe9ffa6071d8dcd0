use Rattle.std.proofs.Common.{◌∙◌}
use Rattle.dbm_model.specs.Calls.{Next}
use Rattle.ndbm_calls.proofs.Statuses.{read_back}
use Rattle.ndbm_calls.proofs.Told.{key_answered}
use Rattle.ndbm_calls.proofs.reads.nextkey.Goals as goal

pub returns-clause-answered : goal.returns-clause-answered
returns-clause-answered g c =
    key_answered c.args.db.now c.nextkey.follows.lender-at-none Next _ c.nextkey.result _
    (read_back c.give.result c.give.type_inv ∙ c.give.ensures.status) c.give.ensures.bytes
    c.nextkey.follows.holds-at-none
