use Rattle.dbm_model.proofs.Failures.{device_is_the_cause}
use Rattle.dbm_model.proofs.session_laws.device_is_the_cause.Goals as goal

pub returns : goal.returns
returns c = device_is_the_cause
