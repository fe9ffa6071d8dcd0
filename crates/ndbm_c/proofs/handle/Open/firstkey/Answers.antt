use Rattle.std.proofs.Common.{ℤ, take, refl}
use Rattle.dbm_model.specs.Calls.{First}
use Rattle.ndbm_c.specs.Held.{Calls}
use Rattle.ndbm_c.proofs.Answered.{on_open}
use Rattle.ndbm_c.proofs.handle.Open.firstkey.Goals as goal

pub returns-in-Database-clause-answered : goal.returns-in-Database-clause-answered
returns-in-Database-clause-answered c =
    on_open c.args.self.now c.in-Database.opened
    record { db = c.firstkey.new.db; group = c.in-Database.opened.group }
    (λ (n : ℤ). Calls First n (take c.firstkey.new.length c.firstkey.new.out)) c.firstkey.result c.firstkey.type_inv c.in-Database.is record {
      answered = c.firstkey.ensures.answered;
      group = refl;
    }
