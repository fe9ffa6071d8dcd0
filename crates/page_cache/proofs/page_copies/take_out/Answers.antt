use Rattle.page_cache.proofs.Lookups.{left_apart}
use Rattle.page_cache.proofs.page_copies.take_out.Goals as goal

pub returns-clause-left : goal.returns-clause-left
returns-clause-left c =
    left_apart c.args.pages.now.entries c.pop.new.self c.args.pages.now.cap c.args.n
    c.len.ensures.valid.0 c.pop.ensures.entries
