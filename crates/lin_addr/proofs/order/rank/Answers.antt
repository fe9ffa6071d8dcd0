use Rattle.std.proofs.Common.{ap, ◌∙◌, rules}
use Rattle.dbm_model.specs.KeyOrder.{rank}
use Rattle.lin_addr.proofs.Ranks.{rank_back}
use Rattle.lin_addr.proofs.order.rank.Goals as goal

pub returns-clause-back : goal.returns-clause-back
returns-clause-back c =
    ap rank c.reverse_bits.ensures ∙ rank_back c.args.hash (search rules)
