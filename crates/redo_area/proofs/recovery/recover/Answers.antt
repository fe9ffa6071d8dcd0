use Rattle.redo_area.proofs.Recoveries.{as_before}
use Rattle.redo_area.proofs.recovery.recover.Goals as goal

pub returns-in-Err-clause-any_moment : goal.returns-in-Err-clause-any_moment
returns-in-Err-clause-any_moment g c honest =
    as_before g.D.SectorDev c.args.dev.now c.sync_and_read.new.dev
    (c.sync_and_read.ensures.any_moment honest)
