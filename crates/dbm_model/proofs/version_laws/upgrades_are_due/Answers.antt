use Rattle.dbm_model.proofs.UpgradeLemmas.{second_is_told, small_is_refused, upgrade_keeps, upgrade_raises, never_short, upgrade_examples}
use Rattle.dbm_model.proofs.version_laws.upgrades_are_due.Goals as goal

pub returns : goal.returns
returns c = record {
  told = second_is_told;
  small = small_is_refused;
  keeps = upgrade_keeps;
  raises = upgrade_raises;
  never_short = never_short;
  examples = upgrade_examples;
}
