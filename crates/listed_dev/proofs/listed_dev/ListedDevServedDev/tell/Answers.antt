use Rattle.listed_dev.proofs.Same.{shows_the_same}
use Rattle.listed_dev.proofs.listed_dev.ListedDevServedDev.tell.Goals as goal

pub returns-in-Sector-clause-reads : goal.returns-in-Sector-clause-reads
returns-in-Sector-clause-reads c =
    shows_the_same c.args.self.now c.learn.new.self c.learn.ensures.nothing.history

pub returns-in-CarriedOut-clause-reads : goal.returns-in-CarriedOut-clause-reads
returns-in-CarriedOut-clause-reads c =
    shows_the_same c.args.self.now c.forget.new.self c.forget.ensures.history
