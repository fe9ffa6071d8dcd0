use Rattle.std.proofs.Common.{Contains, sym, subst}
use Rattle.page_cache.proofs.Lookups.{same_entries}
use Rattle.page_cache.proofs.page_copies.PageCopies.forget.Goals as goal

pub returns-in-Some : goal.returns-in-Some
returns-in-Some c k one has =
    let old = c.take_out.ensures.left k one has in (
      subst (λ es. Contains es (k, one))
          (sym (same_entries c.args.self.now.pages c.in-Some.pages c.in-Some.is)) old.0,
      old.1,
    )
