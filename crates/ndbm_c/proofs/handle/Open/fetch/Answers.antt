use Rattle.std.proofs.Common.{ℤ, take, refl}
use Rattle.dbm_model.specs.Calls.{Fetch}
use Rattle.ndbm_c.specs.Held.{Calls}
use Rattle.ndbm_c.proofs.Answered.{on_open}
use Rattle.ndbm_c.proofs.handle.Open.fetch.Goals as goal

pub returns-in-Database-clause-answered : goal.returns-in-Database-clause-answered
returns-in-Database-clause-answered c =
    on_open c.args.self.now c.in-Database.opened
    record { db = c.fetch.new.db; group = c.in-Database.opened.group }
    (λ (n : ℤ). Calls (Fetch c.args.key.now) n (take c.fetch.new.length c.fetch.new.out)) c.fetch.result c.fetch.type_inv c.in-Database.is record {
      answered = c.fetch.ensures.answered;
      group = refl;
    }
