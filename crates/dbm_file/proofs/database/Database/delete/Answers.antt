use Rattle.dbm_file.proofs.Endings.{flagged_ended, flagged_delete}
use Rattle.dbm_file.proofs.Refused.{refused_is_none}
use Rattle.dbm_file.proofs.StoreSteps.{delete_flagged}
use Rattle.dbm_file.proofs.database.Database.delete.Goals as goal

pub returns-in-Err : goal.returns-in-Err
returns-in-Err g c =
    let all = c.in-Err.ensures in
    let mid = c.try_delete.new.self in
    let end = flagged_delete c.args.self.now mid mid.idle mid.told mid.valid c.refuse.new.error
    c.in-Err.fault c.refuse.ensures.flag c.args.key.now c.refuse.result c.refuse.ensures.answer
    all.ends in
    record {
      step = λ honest h at.
          delete_flagged g.S.PageStore _ mid h _ _ _ _ c.refuse.new.error c.in-Err.fault
          c.refuse.ensures.flag c.refuse.result c.refuse.ensures.answer (all.step honest h at);
      shape = end.shape;
      read_only = end.read_only;
      absent = end.absent;
      counted = end.counted;
      deleted = λ is. refused_is_none c.refuse.result _ _ c.refuse.ensures.answer is;
      memory = end.memory;
      keeps = flagged_ended c.args.self.now mid _ _ _ c.refuse.new.error c.in-Err.fault
          c.refuse.ensures.flag c.refuse.result c.refuse.ensures.answer all.ends.keeps;
      only = end.only;
      pass = all.pass;
    }

pub returns-in-Ok : goal.returns-in-Ok
returns-in-Ok g c =
    let all = c.in-Ok.ensures in
    record {
      step = λ honest h at. all.step honest h at;
      shape = all.ends.shape;
      read_only = all.ends.read_only;
      absent = all.ends.absent;
      counted = all.ends.counted;
      deleted = all.ends.deleted;
      memory = all.ends.memory;
      keeps = all.ends.keeps;
      only = all.ends.only;
      pass = all.pass;
    }
