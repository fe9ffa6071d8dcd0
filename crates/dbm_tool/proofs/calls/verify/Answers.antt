use Rattle.file_opening.specs.declared.open_how.Access.TheVariants.{ReadOnly}
use Rattle.dbm_tool.specs.Files.{there}
use Rattle.dbm_tool.proofs.Carrying.{was_closed}
use Rattle.dbm_tool.proofs.calls.verify.Goals as goal

pub returns-clause-carried : goal.returns-clause-carried
returns-clause-carried g c =
    was_closed _ (there ReadOnly) _ _ c.in_ok-db.db c.verify-done.new.db c.verify-done.result
    c.in_ok-db.ensures.opens c.in_ok-db.ensures.fresh (record { good = c.verify-done.ensures.good; damaged = c.verify-done.ensures.damaged; only = c.verify-done.ensures.only }) c.close.ensures.closed
