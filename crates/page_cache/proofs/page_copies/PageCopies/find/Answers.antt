use Rattle.std.proofs.Common.{sym, ap}
use Rattle.page_cache.proofs.Lookups.{found_copy}
use Rattle.page_cache.specs.declared.page_copy.PageCopy.{PageCopy}
use Rattle.page_cache.proofs.page_copies.PageCopies.find.Goals as goal

pub returns-in-Some-get-clause-page : goal.returns-in-Some-get-clause-page
returns-in-Some-get-clause-page c = (
  c.in-Some-get.found.now,
  found_copy c.args.self.now.pages c.in-Some.pages c.in-Some.is c.args.n
      c.in-Some-get.found.now (let value = c.get.ensures.value in rw c.in-Some-get.is at value),
  sym (ap (λ (copy : PageCopy). copy.page) c.deref.ensures),
  sym (ap (λ (copy : PageCopy). copy.known) c.deref-in-Some-get.ensures),
)
