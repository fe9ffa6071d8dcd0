use Rattle.dbm_tool.specs.Commands.{form_of}
use Rattle.dbm_tool.specs.Files.{there}
use Rattle.dbm_tool.proofs.Carrying.{ran, was_closed}
use Rattle.dbm_tool.proofs.texts.script.Goals as goal

pub returns-clause-carried : goal.returns-clause-carried
returns-clause-carried g c =
    was_closed _ (there c.args.access) _ _ c.in_ok-db.db c.script_engine-done.new.db
    c.flush_after.result c.in_ok-db.ensures.opens c.in_ok-db.ensures.fresh
    (ran _ _ _ _ _ c.script_engine-done.result _ c.flush_after.ensures.failed c.flush_after.ensures.done
    c.flush_after.ensures.bytes (form_of c.args.spelling) _
    (rw c.form_of.ensures at c.script_engine-done.ensures.stands)
    (rw c.form_of.ensures at c.script_engine-done.ensures.answer)
    (rw c.form_of.ensures at c.script_engine-done.ensures.tells)
    c.script_engine-done.ensures.only) c.close.ensures.closed
