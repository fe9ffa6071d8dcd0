use Rattle.std.proofs.Common.{ℤ, take, refl}
use Rattle.dbm_model.specs.Calls.{Next}
use Rattle.ndbm_c.specs.Held.{Calls}
use Rattle.ndbm_c.proofs.Answered.{on_open}
use Rattle.ndbm_c.proofs.handle.Open.nextkey.Goals as goal

pub returns-in-Database-clause-answered : goal.returns-in-Database-clause-answered
returns-in-Database-clause-answered c =
    on_open c.args.self.now c.in-Database.opened
    record { db = c.nextkey.new.db; group = c.in-Database.opened.group }
    (λ (n : ℤ). Calls Next n (take c.nextkey.new.length c.nextkey.new.out)) c.nextkey.result c.nextkey.type_inv c.in-Database.is record {
      answered = c.nextkey.ensures.answered;
      group = refl;
    }
