use Rattle.listed_dev.proofs.Same.{synced_so}
use Rattle.listed_dev.proofs.listed_dev.ListedDevSectorDev.sync.Goals as goal

pub returns-in-Ok-clause-candidates : goal.returns-in-Ok-clause-candidates
returns-in-Ok-clause-candidates c =
    synced_so c.args.self.now c.list_sync.new.self c.in-Ok.ensures.ok.history
