use Rattle.dbm_engines.specs.Scripts.{asked}
use Rattle.dbm_engines.proofs.Flushing.{answered}
use Rattle.dbm_engines.proofs.in_memory.script_in_memory.Goals as goal

pub returns-clause-answer : goal.returns-clause-answer
returns-clause-answer g c =
    let made = c.in-Ok.ensures.fresh in
    answered c.map_err.result c.args.form (asked c.args.limit c.args.version) _ _ _ _ c.in-Ok.db
    c.script_engine-done.new.db made c.in-Ok.ensures.room c.in-Ok.ensures.allowed
    (c.in_ok-done.ensures.answer tt made.handle made.is_at)
    c.flush-flushed.ensures.bytes
