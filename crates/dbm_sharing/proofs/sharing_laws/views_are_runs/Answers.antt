use Rattle.dbm_sharing.proofs.ReplyLemmas.{others_leave_own}
use Rattle.dbm_sharing.proofs.ViewLemmas.{views_are_runs}
use Rattle.dbm_sharing.proofs.WholeViews.{whole_views_are_runs}
use Rattle.dbm_sharing.proofs.sharing_laws.views_are_runs.Goals as goal

pub returns : goal.returns
returns c = record {
  run = views_are_runs;
  whole = whole_views_are_runs;
  own = others_leave_own;
}
