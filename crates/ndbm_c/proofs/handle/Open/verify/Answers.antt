use Rattle.std.proofs.Common.{refl}
use Rattle.ndbm_c.specs.Looks.{Verifies}
use Rattle.ndbm_c.proofs.Answered.{on_open}
use Rattle.ndbm_c.proofs.handle.Open.verify.Goals as goal

pub returns-in-Database : goal.returns-in-Database
returns-in-Database c = record {
  answered = on_open c.args.self.now c.in-Database.opened
      record { db = c.verify.new.db; group = c.in-Database.opened.group }
      (Verifies) c.verify.result c.verify.type_inv c.in-Database.is record {
        verdict = c.verify.ensures.verdict;
        good = λ zero. c.verify.ensures.good tt zero;
        damaged = λ is good. c.verify.ensures.damaged tt is good.0 good.1;
        stays = c.verify.ensures.stays;
        read = c.verify.ensures.read;
        group = refl;
      };
}
