use Rattle.std.proofs.Common.{inl}
use Rattle.page_cache.proofs.CurrentCopies.{after_settle}
use Rattle.page_cache.proofs.Whole.{same_store}
use Rattle.page_cache.specs.Copies.{copies_of}
use Rattle.page_cache.proofs.cached_pages.CachedPagesPageStore.settle.Goals as goal

pub invariant_of-self : goal.invariant_of-self
invariant_of-self g c =
    let old = c.args.self.now in
    let done = c.settle.ensures in
    record {
      are_current = after_settle g.S.PageStore old.store c.settle.new.self done.honesty.0
          (copies_of old.copies) old.are_current c.settle.result done.ok done.committed
          done.breaks (λ broken. done.untouched (inl broken)) done.answer.broken.0
          done.answer.only;
    }

pub returns-clause-untouched : goal.returns-clause-untouched
returns-clause-untouched g c still =
    let old = c.args.self.now in
    same_store g.S.PageStore old.store c.settle.new.self old.copies _ old.are_current
    (c.settle.ensures.untouched still)
