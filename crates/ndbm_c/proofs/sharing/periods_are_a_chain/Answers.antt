use Rattle.ndbm_c.proofs.SharedChains.{all_chains}
use Rattle.ndbm_c.proofs.sharing.periods_are_a_chain.Goals as goal

pub returns : goal.returns
returns c = record {
  chain = all_chains;
}
