use Rattle.std.proofs.Common.{◌↔◌, IsTrue, rules, ap, subst, ◌∙◌, List, ℕ}
use Rattle.dbm_model.specs.KeyOrder.{rank, hash_of, ComesBefore}
use Rattle.bucket_chain.proofs.KeyRanks.{order_by_rank}
use Rattle.bucket_chain.proofs.LeastKeys.{one_key, same_before}
use Rattle.bucket_chain.proofs.leasts.is_better.Goals as goal

pub returns-then-at-best-clause-before : goal.returns-then-at-best-clause-before
returns-then-at-best-clause-before c = rw c.in-Some.is (λ key other has has'.
    subst (λ (k : List ℕ). IsTrue c.comes_before.result ↔ ComesBefore k other)
    (one_key _ _ _ key c.ranked_at.ensures has)
    (same_before _ _ _ _ other _ c.ranked_at-then-at-best.ensures has' c.comes_before.ensures))

pub returns-else-at-best-clause-before : goal.returns-else-at-best-clause-before
returns-else-at-best-clause-before c =
    let held = rw c.in-Some.is at c.requires.best in
    rw c.in-Some.is (λ key other has has'.
    order_by_rank key other _ _ _
    (c.requires.at.rank_is ∙ ap (λ (k : List ℕ). rank (hash_of k))
    (one_key _ _ _ key c.requires.at.has has))
    (held.rank_is ∙ ap (λ (k : List ℕ). rank (hash_of k)) (one_key _ _ _ other held.has has'))
    c.if-at-best.false (search rules))
