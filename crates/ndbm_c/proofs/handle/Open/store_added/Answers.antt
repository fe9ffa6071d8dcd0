use Rattle.std.proofs.Common.{ℤ}
use Rattle.ndbm_c.specs.Groups.{StoresAdded}
use Rattle.ndbm_c.proofs.Answered.{on_open}
use Rattle.ndbm_c.proofs.handle.Open.store_added.Goals as goal

pub returns-in-Database-clause-answered : goal.returns-in-Database-clause-answered
returns-in-Database-clause-answered c =
    on_open c.args.self.now c.in-Database.opened
    record { db = c.store.new.db; group = c.store.new.self }
    (λ (n : ℤ). StoresAdded n c.store.new.stored) c.store.result c.store.type_inv
    c.in-Database.is record {
      step = c.store.ensures.step;
      ends = c.store.ensures.ends;
      pass = c.store.ensures.pass;
      forgotten = c.store.ensures.forgotten;
    }
