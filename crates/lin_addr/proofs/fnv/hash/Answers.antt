use Rattle.std.proofs.Common.{arith, rules}
use Rattle.std.proofs.lemmas.Grind.{common_steps}
use Rattle.dbm_model.specs.KeyOrder.{hash_of}
use Rattle.lin_addr.proofs.fnv.hash.Goals as goal

pub loop-byte-init : goal.loop-byte-init
unfolding hash_of
loop-byte-init c = search rules

pub loop-byte-preserved : goal.loop-byte-preserved
unfolding hash_of
loop-byte-preserved c = grind (arith, common_steps)
