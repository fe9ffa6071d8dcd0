use Rattle.page_cache.proofs.CurrentCopies.{after_commit}
use Rattle.page_cache.specs.Copies.{copies_of}
use Rattle.page_cache.proofs.cached_pages.CachedPagesPageStore.commit.Goals as goal

pub invariant_of-self : goal.invariant_of-self
invariant_of-self g c =
    let old = c.args.self.now in
    let done = c.commit.ensures in
    record {
      are_current = after_commit g.S.PageStore old.store c.commit.new.self done.honesty.0
          c.args.new_end c.requires.grown (copies_of old.copies) old.are_current c.commit.result
          done.ok done.committed done.refused done.breaks done.answer.only;
    }
