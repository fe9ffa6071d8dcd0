use Rattle.dbm_file.proofs.UpgradeSteps.{upgrade_flagged}
use Rattle.dbm_file.proofs.database.Database.upgrade.Goals as goal

pub returns-in-Err-clause-step : goal.returns-in-Err-clause-step
returns-in-Err-clause-step g c honest h at =
    upgrade_flagged g.S.PageStore _ c.try_upgrade.new.self h _ _ _ c.refuse.new.error c.in-Err.fault
    c.refuse.ensures.flag c.refuse.result c.refuse.ensures.answer
    (c.in-Err.ensures.step honest h at)
