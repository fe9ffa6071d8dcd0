use Rattle.std.proofs.Common.{sym}
use Rattle.page_cache.proofs.Lookups.{found_copy}
use Rattle.page_cache.proofs.page_copies.PageCopies.lend.Goals as goal

pub returns-in-Some-peek-clause-copy : goal.returns-in-Some-peek-clause-copy
returns-in-Some-peek-clause-copy c = (
  c.in-Some-peek.copy.now,
  found_copy c.args.self.now.pages c.in-Some.pages c.in-Some.is c.args.n
      c.in-Some-peek.copy.now (let value = c.peek.ensures in rw c.in-Some-peek.is at value),
  sym c.deref.ensures,
)
