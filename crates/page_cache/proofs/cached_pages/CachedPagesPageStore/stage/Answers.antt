use Rattle.page_cache.proofs.CurrentCopies.{unchanged, staged_kept}
use Rattle.page_cache.specs.Copies.{copies_of}
use Rattle.page_cache.proofs.cached_pages.CachedPagesPageStore.stage.Goals as goal

-- the store below does not stage the page
pub invariant_of-self : goal.invariant_of-self
invariant_of-self g c =
    let old = c.args.self.now in
    let done = c.stage.ensures in
    record {
      are_current = unchanged g.S.PageStore old.store c.stage.new.self done.honesty.0
          (copies_of old.copies) old.are_current c.in_err-stage.ensures.err done.kept;
    }

-- it stages the page
pub invariant_of-self-2 : goal.invariant_of-self-2
invariant_of-self-2 g c =
    let old = c.args.self.now in
    let done = c.stage.ensures in
    record {
      are_current = staged_kept g.S.PageStore old.store c.stage.new.self done.honesty.0
          (copies_of old.copies) (copies_of c.keep.new.self) c.args.page.now c.args.n
          old.are_current c.requires.number (g.met.S.PageStore.in_order old.store)
          c.in_ok-stage.ensures.ok done.kept c.keep.ensures;
    }
