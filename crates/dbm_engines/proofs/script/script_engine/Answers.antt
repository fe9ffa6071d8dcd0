use Rattle.dbm_file.proofs.Runs.{no_run}
use Rattle.dbm_engines.proofs.Answering.{no_call}
use Rattle.dbm_engines.proofs.script.script_engine.Goals as goal

pub returns-in_default-clause-stands : goal.returns-in_default-clause-stands
returns-in_default-clause-stands g c honest start at =
    let db = c.args.db.now in
    no_call c.args.form db start _ (no_run g.S.PageStore db start at
    (λ x left. g.met.S.PageStore.only_now db.store x honest left))
