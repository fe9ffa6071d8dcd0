use Rattle.std.proofs.Common.{◌≡◌, inr, subst}
use Rattle.page_io.specs.Views.{visible_page}
use Rattle.page_cache.specs.declared.page_copy.PageCopy.{PageCopy}
use Rattle.page_cache.proofs.cached_pages.CachedPagesPageStore.lend.Goals as goal

pub returns-clause-found : goal.returns-clause-found
returns-clause-found g c honest =
    let old = c.args.self.now in
    let can = c.is_readable.ensures.0 c.if-not-is_readable.false in
    let held = c.in_ok-copy.ensures.copy in
    subst (λ (copy : PageCopy).
    copy.page.bytes ≡ visible_page g.S.PageStore old.store c.args.n) held.2
    (old.are_current c.args.n held.0 held.1 honest can.0 (inr (can.1, can.2)))
