use Rattle.dbm_engines.proofs.Loading.{stored_pair}
use Rattle.dbm_engines.proofs.storing.store_pair.Goals as goal

pub returns-in-Ok-clause-stores : goal.returns-in-Ok-clause-stores
returns-in-Ok-clause-stores g c =
    stored_pair c.args.key.now c.args.content.now c.in-Ok.field-0 c.args.db.now c.store.new.self
    c.in-Ok.ensures.step
