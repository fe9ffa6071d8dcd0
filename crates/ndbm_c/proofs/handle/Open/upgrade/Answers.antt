use Rattle.std.proofs.Common.{refl}
use Rattle.ndbm_c.specs.Held.{Upgrades}
use Rattle.ndbm_c.proofs.Answered.{on_open}
use Rattle.ndbm_c.proofs.handle.Open.upgrade.Goals as goal

pub returns-in-Database : goal.returns-in-Database
returns-in-Database c = record {
  answered = on_open c.args.self.now c.in-Database.opened
      record { db = c.upgrade.new.db; group = c.in-Database.opened.group }
      (Upgrades) c.upgrade.result c.upgrade.type_inv c.in-Database.is record {
        step = c.upgrade.ensures.step;
        ends = c.upgrade.ensures.ends;
        pass = c.upgrade.ensures.pass;
        upgraded = c.upgrade.ensures.upgraded;
        group = refl;
      };
}
