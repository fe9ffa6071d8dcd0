use Rattle.ndbm_c.proofs.Resting.{all_rest}
use Rattle.ndbm_c.proofs.sharing.rests_on_disk.Goals as goal

pub returns : goal.returns
returns c = record {
  rests = all_rest;
}
