use Rattle.page_cache.proofs.CurrentCopies.{moved}
use Rattle.page_cache.specs.Copies.{copies_of}
use Rattle.page_cache.proofs.cached_pages.CachedPagesPageStore.promote.Goals as goal

pub invariant_of-self : goal.invariant_of-self
invariant_of-self g c =
    let old = c.args.self.now in
    record {
      are_current = moved g.S.PageStore old.store (copies_of old.copies)
          (copies_of c.promote.new.self) c.args.n old.are_current c.promote.ensures;
    }
