use Rattle.dbm_sharing.proofs.Examples.{store_is_seen, pass_over_delete, pass_over_replacement, opened_anew, death_in_store, store_is_broken}
use Rattle.dbm_sharing.proofs.WrongChains.{wrong_chains}
use Rattle.dbm_sharing.proofs.sharing_laws.sharing_examples.Goals as goal

pub returns : goal.returns
returns c = record {
  seen = store_is_seen;
  pass = pass_over_delete;
  death = death_in_store;
  broken = store_is_broken;
  replaced = pass_over_replacement;
  opened = opened_anew;
  never = wrong_chains;
}
