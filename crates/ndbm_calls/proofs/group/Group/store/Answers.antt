use Rattle.std.proofs.Common.{ℕ, Ok, Err, refl, ◌∙◌}
use Rattle.ndbm_calls.proofs.Ended.{is_done}
use Rattle.ndbm_calls.proofs.Statuses.{read_back}
use Rattle.ndbm_calls.proofs.group.Group.store.Goals as goal

pub returns-in-Ok-clause-ends : goal.returns-in-Ok-clause-ends
returns-in-Ok-clause-ends g c =
    is_done c.args.db.now c.store_many-answer.new.self (Ok c.in-Ok.count) _ _ refl refl
    c.in-Ok.ensures.keeps

pub returns-in-Err-clause-ends : goal.returns-in-Err-clause-ends
returns-in-Err-clause-ends g c =
    is_done c.args.db.now c.store_many-answer.new.self {T = ℕ} (Err c.in-Err.fault) _ _
    (read_back c.refusal.result c.refusal.type_inv ∙ c.refusal.ensures) refl
    c.in-Err.ensures.keeps
