use Rattle.bucket_chain.proofs.LeastKeys.{better_key, best_over, best_stays, best_changes}
use Rattle.bucket_chain.proofs.leasts.best_of.Goals as goal

pub returns-in_default-clause-least : goal.returns-in_default-clause-least
returns-in_default-clause-least c pairs least =
    best_over pairs _ _ _ _ least c.in_default.ensures.least

pub returns-then-not-is_better-clause-least : goal.returns-then-not-is_better-clause-least
returns-then-not-is_better-clause-least c pairs least =
    let at = c.in-Some.ensures.ranked in
    best_stays pairs _ _ _ _ _ c.in-Some.ensures.least at.key at.has _ _ least
    c.is_better.ensures.first
    (better_key _ _ _ _ at.key _ at.has c.is_better.ensures.before) c.if-not-is_better.true

pub returns-clause-least : goal.returns-clause-least
returns-clause-least c pairs least =
    let at = c.in-Some.ensures.ranked in
    rw c.swap.ensures.x_after
    (best_changes pairs _ _ _ _ _ c.in-Some.ensures.least at.key at.has _ _ least
    c.is_better.ensures.first
    (better_key _ _ _ _ at.key _ at.has c.is_better.ensures.before) c.if-not-is_better.false)
