use Rattle.dbm_model.proofs.StayLemmas.{reading_keeps, settings_stay}
use Rattle.dbm_model.proofs.call_laws.settings_stay.Goals as goal

pub returns : goal.returns
returns c = record {
  map = reading_keeps;
  settings = settings_stay;
}
