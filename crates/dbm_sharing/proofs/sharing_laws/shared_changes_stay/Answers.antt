use Rattle.dbm_sharing.proofs.Writers.{writers_are_sessions, marks_are_of_sessions, shared_changes_stay, power_cuts_leave}
use Rattle.dbm_sharing.proofs.sharing_laws.shared_changes_stay.Goals as goal

pub returns : goal.returns
returns c = record {
  sessions = writers_are_sessions;
  changes = marks_are_of_sessions;
  stay = shared_changes_stay;
  power_cuts = power_cuts_leave;
}
