use Rattle.std.proofs.Common.{refl, sym}
use Rattle.dbm_file.specs.Replies.{told_of_store}
use Rattle.dbm_file.proofs.Answered.{store_answered, store_is_told}
use Rattle.dbm_file.proofs.Runs.{same_step}
use Rattle.dbm_commands.proofs.pairs.store.Goals as goal

pub returns : goal.returns
returns g c = record {
  reply = told_of_store c.store.result;
  told = c.store_outcome.ensures;
  step = λ honest h at. same_step refl (sym (store_is_told c.store.result _ refl))
      (c.store.ensures.step honest h at);
  answered = store_answered c.store.result _ _ _ _ _ _ refl refl refl c.store.ensures.kept
      c.store.ensures.stored c.store.ensures.only c.store.ensures.keeps;
}
