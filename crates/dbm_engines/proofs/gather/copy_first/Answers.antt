use Rattle.dbm_model.specs.Calls.{First, End}
use Rattle.dbm_file.specs.Calls.{lent_reply}
use Rattle.dbm_engines.proofs.Dumping.{reads_first, reads_by}
use Rattle.dbm_engines.proofs.gather.copy_first.Goals as goal

pub returns-clause-reads : goal.returns-clause-reads
returns-clause-reads g c = reads_by g.S.PageStore First (lent_reply End) _ _ c.firstkey.result _
    reads_first c.firstkey.follows.holds-at-none c.copied.ensures
