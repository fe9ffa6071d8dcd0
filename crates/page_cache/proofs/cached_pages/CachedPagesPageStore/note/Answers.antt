use Rattle.page_cache.proofs.CurrentCopies.{with_kept}
use Rattle.page_cache.specs.Copies.{copies_of}
use Rattle.page_cache.proofs.cached_pages.CachedPagesPageStore.note.Goals as goal

pub invariant_of-self : goal.invariant_of-self
invariant_of-self g c =
    let old = c.args.self.now in
    record {
      are_current = with_kept g.S.PageStore old.store (copies_of old.copies)
          (copies_of c.keep.new.self) c.args.n c.args.page.now
          (λ k one has other. old.are_current k one has)
          (λ honest usable known. c.requires.read honest) c.keep.ensures;
    }
