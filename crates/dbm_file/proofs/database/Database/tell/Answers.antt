use Rattle.std.proofs.Common.{refl}
use Rattle.dbm_file.proofs.ReadThrough.{stays_at}
use Rattle.dbm_file.proofs.database.Database.tell.Goals as goal

pub returns-clause-stays : goal.returns-clause-stays
returns-clause-stays g c honest h at =
    stays_at g.S.PageStore c.args.self.now _ record {
      reads = c.tell.ensures.reads;
      meta_is = refl;
      error_is = refl;
      pass_is = refl;
    } honest h at
