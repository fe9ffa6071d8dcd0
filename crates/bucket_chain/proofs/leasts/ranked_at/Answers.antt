use Rattle.std.proofs.Common.{List, ℕ, sym, ap, ◌∙◌}
use Rattle.dbm_model.specs.KeyOrder.{rank, hash_of}
use Rattle.bucket_chain.proofs.LeastKeys.{key_is}
use Rattle.bucket_chain.proofs.leasts.ranked_at.Goals as goal

pub invariant_of-result : goal.invariant_of-result
invariant_of-result c =
    let there = rw c.page.ensures at c.pair_at.ensures in
    record {
      is_rank = c.requires.rank_is
          ∙ ap (λ (key : List ℕ). rank (hash_of key))
          (sym (key_is _ _ _ c.requires.key _ there c.requires.has));
    }
