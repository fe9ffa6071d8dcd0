use Rattle.std.proofs.Common.{refl}
use Rattle.ndbm_c.specs.Groups.{Syncs}
use Rattle.ndbm_c.proofs.Answered.{on_open}
use Rattle.ndbm_c.proofs.handle.Open.sync.Goals as goal

pub returns-in-Database : goal.returns-in-Database
returns-in-Database c = record {
  answered = on_open c.args.self.now c.in-Database.opened
      record { db = c.sync.new.db; group = c.in-Database.opened.group }
      (Syncs) c.sync.result c.sync.type_inv c.in-Database.is record {
        home = λ zero writable. c.sync.ensures.home tt zero writable;
        stays = c.sync.ensures.stays;
        ends = c.sync.ensures.ends;
        pass = c.sync.ensures.pass;
        group = refl;
      };
}
