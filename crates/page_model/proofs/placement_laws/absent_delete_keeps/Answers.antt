use Rattle.page_model.proofs.Absent.{delete_absent}
use Rattle.page_model.proofs.placement_laws.absent_delete_keeps.Goals as goal

pub returns : goal.returns
returns _ = delete_absent
