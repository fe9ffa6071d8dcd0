use Rattle.dbm_sharing.proofs.Anew.{handles_resume, errors_are_kept_beside, breaks_leave_either}
use Rattle.dbm_sharing.proofs.sharing_laws.handles_open_anew.Goals as goal

pub returns : goal.returns
returns c = record {
  resumes = handles_resume;
  errors = errors_are_kept_beside;
  either = breaks_leave_either;
}
