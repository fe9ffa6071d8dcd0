use Rattle.std.proofs.Common.{refl, sym}
use Rattle.dbm_file.specs.Replies.{told_of_delete}
use Rattle.dbm_file.proofs.Answered.{delete_answered, delete_is_told}
use Rattle.dbm_file.proofs.Runs.{same_step}
use Rattle.dbm_commands.proofs.pairs.delete.Goals as goal

pub returns : goal.returns
returns g c = record {
  reply = told_of_delete c.delete.result;
  told = c.delete_outcome.ensures;
  step = λ honest h at. same_step refl (sym (delete_is_told c.delete.result _ refl))
      (c.delete.ensures.step honest h at);
  answered = delete_answered c.delete.result _ _ _ refl refl c.delete.ensures.absent
      c.delete.ensures.deleted c.delete.ensures.only c.delete.ensures.keeps;
}
