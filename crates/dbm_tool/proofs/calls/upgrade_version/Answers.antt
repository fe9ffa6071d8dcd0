use Rattle.file_opening.specs.declared.open_how.Access.TheVariants.{ReadWrite}
use Rattle.dbm_tool.specs.Files.{there}
use Rattle.dbm_tool.proofs.Carrying.{was_closed}
use Rattle.dbm_tool.proofs.calls.upgrade_version.Goals as goal

pub returns-clause-carried : goal.returns-clause-carried
returns-clause-carried g c =
    was_closed _ (there ReadWrite) _ _ c.in_ok-db.db c.upgrade-done.new.db c.upgrade-done.result
    c.in_ok-db.ensures.opens c.in_ok-db.ensures.fresh c.upgrade-done.ensures c.close.ensures.closed
