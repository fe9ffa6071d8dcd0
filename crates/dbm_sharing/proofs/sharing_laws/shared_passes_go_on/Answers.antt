use Rattle.dbm_sharing.proofs.PassViews.{shared_there, shared_complete}
use Rattle.dbm_sharing.proofs.SharedPasses.{shared_lasting, shared_ascend, shared_once}
use Rattle.dbm_sharing.proofs.sharing_laws.shared_passes_go_on.Goals as goal

pub returns : goal.returns
returns c = record {
  lasting = shared_lasting;
  ascending = shared_ascend;
  once = shared_once;
  there = shared_there;
  complete = shared_complete;
}
