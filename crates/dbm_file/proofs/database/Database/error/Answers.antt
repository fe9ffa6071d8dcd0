use Rattle.std.proofs.Common.{rules}
use Rattle.dbm_file.proofs.PassSteps.{error_step}
use Rattle.dbm_file.proofs.database.Database.error.Goals as goal

pub returns-clause-step : goal.returns-clause-step
returns-clause-step g c honest h at =
    let db = c.args.self.now in
    error_step g.S.PageStore db h at (λ x left. g.met.S.PageStore.only_now db.store x honest left)

pub returns-clause-number : goal.returns-clause-number
returns-clause-number g c = search rules
