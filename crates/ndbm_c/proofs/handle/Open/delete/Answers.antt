use Rattle.std.proofs.Common.{ℤ, [], refl}
use Rattle.dbm_model.specs.Calls.{Delete}
use Rattle.ndbm_c.specs.Held.{Calls, DeletesIn}
use Rattle.ndbm_c.proofs.Answered.{on_open}
use Rattle.ndbm_c.proofs.handle.Open.delete.Goals as goal

pub returns-in-Database-clause-answered : goal.returns-in-Database-clause-answered
returns-in-Database-clause-answered c =
    on_open c.args.self.now c.in-Database.opened
    record { db = c.delete.new.db; group = c.in-Database.opened.group }
    (λ (n : ℤ). Calls (Delete c.args.key.now) n []) c.delete.result c.delete.type_inv c.in-Database.is record {
      answered = c.delete.ensures.answered;
      group = refl;
    }

pub returns-in-Database-clause-deleted : goal.returns-in-Database-clause-deleted
returns-in-Database-clause-deleted c =
    on_open c.args.self.now c.in-Database.opened
    record { db = c.delete.new.db; group = c.in-Database.opened.group }
    (λ (n : ℤ). DeletesIn c.args.key.now n) c.delete.result c.delete.type_inv c.in-Database.is
    c.delete.ensures.deleted
