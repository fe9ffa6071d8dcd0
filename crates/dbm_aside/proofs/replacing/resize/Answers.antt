use Rattle.dbm_aside.proofs.Endings.{copy_ended}
use Rattle.dbm_aside.proofs.replacing.resize.Goals as goal

pub returns : goal.returns
returns g c =
    copy_ended c.copy_engine-filled.result c.end.result c.copy_engine-filled.ensures.only
    c.end.ensures
