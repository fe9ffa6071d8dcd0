use Rattle.std.proofs.Common.{rules, ap, ◌∙◌, List, ℕ}
use Rattle.dbm_model.specs.KeyOrder.{rank, hash_of}
use Rattle.bucket_chain.proofs.KeyRanks.{order_by_rank}
use Rattle.bucket_chain.proofs.LeastKeys.{one_key, same_before}
use Rattle.bucket_chain.proofs.leasts.is_behind.Goals as goal

pub returns-then-last-at : goal.returns-then-last-at
returns-then-last-at c = rw c.in-Some.is (λ key has.
    same_before _ _ _ _ key _ c.ranked_at.ensures has c.comes_before.ensures)

pub returns-else-last-at : goal.returns-else-last-at
returns-else-last-at c = rw c.in-Some.is (λ key has.
    order_by_rank _ key _ _ _ c.in-Some.last.is_rank
    (c.requires.rank_is ∙ ap (λ (k : List ℕ). rank (hash_of k))
    (one_key _ _ _ key c.requires.has has)) c.if-last-at.false (search rules))
