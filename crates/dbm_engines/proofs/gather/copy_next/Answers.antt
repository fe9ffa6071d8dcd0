use Rattle.dbm_model.specs.Calls.{Next, End}
use Rattle.dbm_file.specs.Calls.{lent_reply}
use Rattle.dbm_engines.proofs.Dumping.{reads_next, reads_by}
use Rattle.dbm_engines.proofs.gather.copy_next.Goals as goal

pub returns-clause-reads : goal.returns-clause-reads
returns-clause-reads g c = reads_by g.S.PageStore Next (lent_reply End) _ _ c.nextkey.result _
    reads_next c.nextkey.follows.holds-at-none c.copied.ensures
