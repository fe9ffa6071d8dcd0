use Rattle.std.proofs.Common.{Err, ap, sym, ◌∙◌}
use Rattle.dbm_file.proofs.ReadSteps.{no_read}
use Rattle.dbm_file.proofs.ReadThrough.{stays_at}
use Rattle.ndbm_calls.proofs.Statuses.{read_back, only_damage}
use Rattle.ndbm_calls.proofs.looks.verify.Goals as goal

-- nothing was called
pub returns-in_default-clause-stays : goal.returns-in_default-clause-stays
returns-in_default-clause-stays g c =
    let s = g.S.PageStore in
    let db = c.args.db.now in
    stays_at s db db (no_read s db (λ y e left. g.met.S.PageStore.only_now db.store y e left))

pub returns-clause-damaged : goal.returns-clause-damaged
returns-clause-damaged g c honest is =
    let told = read_back c.refusal-in-Err.result c.refusal-in-Err.type_inv in
    c.in-Err.ensures.damaged honest
    (ap Err (only_damage c.in-Err.fault (sym (told ∙ c.refusal-in-Err.ensures) ∙ is)))
