use Rattle.std.proofs.Common.{ℤ, [], if◌then◌else◌, refl, subst}
use Rattle.dbm_model.specs.Calls.{Mode, Store, Insert, Replace}
use Rattle.ndbm_calls.specs.Statuses.{IsAnswered}
use Rattle.ndbm_c.specs.Held.{Calls, StoresIn}
use Rattle.ndbm_c.proofs.Answered.{on_open}
use Rattle.ndbm_c.proofs.handle.Open.store.Goals as goal

pub returns-in-Database-clause-answered : goal.returns-in-Database-clause-answered
returns-in-Database-clause-answered c =
    on_open c.args.self.now c.in-Database.opened
    record { db = c.store.new.db; group = c.in-Database.opened.group }
    (λ (n : ℤ). Calls (Store c.args.key.now c.args.content.now
    (if c.args.replace then Replace else Insert)) n []) c.store.result c.store.type_inv c.in-Database.is record {
      answered = subst (λ (mode : Mode). IsAnswered c.in-Database.opened.db c.store.new.db
          (Store c.args.key.now c.args.content.now mode) c.store.result []) c.mode_if.ensures
          c.store.ensures.answered;
      group = refl;
    }

pub returns-in-Database-clause-stored : goal.returns-in-Database-clause-stored
returns-in-Database-clause-stored c =
    on_open c.args.self.now c.in-Database.opened
    record { db = c.store.new.db; group = c.in-Database.opened.group }
    (λ (n : ℤ). StoresIn (c.args.key.now, c.args.content.now) n) c.store.result c.store.type_inv c.in-Database.is
    c.store.ensures.stored
