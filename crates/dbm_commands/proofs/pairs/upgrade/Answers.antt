use Rattle.std.proofs.Common.{refl, sym}
use Rattle.dbm_file.specs.Replies.{told_of_upgrade}
use Rattle.dbm_file.proofs.Answered.{upgrade_answered, upgrade_is_told}
use Rattle.dbm_file.proofs.Runs.{same_step}
use Rattle.dbm_commands.proofs.pairs.upgrade.Goals as goal

pub returns : goal.returns
returns g c = record {
  reply = told_of_upgrade c.upgrade.result;
  told = c.upgrade_outcome.ensures;
  step = λ honest h at. same_step refl (sym (upgrade_is_told c.upgrade.result _ refl))
      (c.upgrade.ensures.step honest h at);
  answered = upgrade_answered c.upgrade.result _ refl c.upgrade.ensures.upgraded
      c.upgrade.ensures.only c.upgrade.ensures.keeps;
}
