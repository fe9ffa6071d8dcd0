use Rattle.page_cache.proofs.CurrentCopies.{unchanged, with_kept}
use Rattle.page_cache.specs.Copies.{copies_of}
use Rattle.page_cache.proofs.cached_pages.CachedPagesPageStore.read.Goals as goal

-- the store below does not give the page
pub invariant_of-self : goal.invariant_of-self
invariant_of-self g c =
    let mid = c.find.new.self in
    let done = c.read.ensures in
    record {
      are_current = unchanged g.S.PageStore mid.store c.read.new.self done.honesty.0
          (copies_of mid.copies) mid.are_current done.state done.kept;
    }

-- it gives the page
pub invariant_of-self-2 : goal.invariant_of-self-2
invariant_of-self-2 g c =
    let mid = c.find.new.self in
    let done = c.read.ensures in
    let left = copies_of c.keep.new.self in
    record {
      are_current = unchanged g.S.PageStore mid.store c.read.new.self done.honesty.0 left
          (with_kept g.S.PageStore mid.store (copies_of mid.copies) left c.args.n
          c.read.new.page (λ k one has other. mid.are_current k one has)
          (λ honest usable known. c.in_ok-known.ensures.found honest) c.keep.ensures)
          done.state done.kept;
    }
