use Rattle.std.proofs.Common.{rules}
use Rattle.dbm_file.proofs.PassSteps.{cleared_step}
use Rattle.dbm_file.proofs.database.Database.clearerr.Goals as goal

pub returns-clause-step : goal.returns-clause-step
returns-clause-step g c honest h at =
    let db = c.args.self.now in
    cleared_step g.S.PageStore db h at
    (λ x left. g.met.S.PageStore.only_now db.store x honest left) _ _ _

pub returns-clause-clear : goal.returns-clause-clear
returns-clause-clear g c = search rules

pub returns-clause-still : goal.returns-clause-still
returns-clause-still g c = search rules
