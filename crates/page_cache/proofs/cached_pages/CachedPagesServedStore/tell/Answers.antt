use Rattle.page_cache.proofs.CurrentCopies.{unchanged}
use Rattle.page_cache.specs.Copies.{copies_of}
use Rattle.page_cache.proofs.cached_pages.CachedPagesServedStore.tell.Goals as goal

pub invariant_of-self : goal.invariant_of-self
invariant_of-self g c =
    let old = c.args.self.now in
    let reads = c.tell.ensures.reads in
    record {
      are_current = unchanged g.S.PageStore old.store c.tell.new.self
          reads.stages_only.honesty.0 (copies_of old.copies) old.are_current reads.same
          reads.stages_only.kept;
    }
