use Rattle.dbm_model.specs.Calls.{Fetch, NoRecord}
use Rattle.dbm_file.specs.Calls.{lent_reply}
use Rattle.dbm_engines.proofs.Dumping.{reads_content, reads_by}
use Rattle.dbm_engines.proofs.gather.copy_content.Goals as goal

pub returns-clause-reads : goal.returns-clause-reads
returns-clause-reads g c = reads_by g.S.PageStore (Fetch c.args.key.now) (lent_reply NoRecord) _ _
    c.fetch.result _ (reads_content c.args.key.now) c.fetch.follows.holds-at-none c.copied.ensures
