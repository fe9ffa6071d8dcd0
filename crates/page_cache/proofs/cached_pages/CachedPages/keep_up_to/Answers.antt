use Rattle.page_cache.proofs.cached_pages.CachedPages.keep_up_to.Goals as goal

pub invariant_of-self : goal.invariant_of-self
invariant_of-self g c = record {
  are_current = λ n copy has.
      c.args.self.now.are_current n copy (c.resize.ensures.copies n copy has);
}
