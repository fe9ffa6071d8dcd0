use Rattle.std.proofs.Common.{sym}
use Rattle.ndbm_c.proofs.Opened.{is_database, closed_so}
use Rattle.ndbm_c.proofs.handle.Open.close.Goals as goal

pub returns : goal.returns
returns c =
    closed_so c.args.self.now c.in-Some.opened c.close-dev.result.0 c.close-dev.result.1
    (is_database c.args.self.now c.in-Some.opened (sym c.in-Some.ensures.taken))
    c.close-dev.ensures
