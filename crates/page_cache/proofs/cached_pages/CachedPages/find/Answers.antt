use Rattle.std.proofs.Common.{inr}
use Rattle.page_cache.specs.Copies.{copies_of}
use Rattle.page_cache.proofs.CurrentCopies.{moved, found_current}
use Rattle.page_cache.proofs.cached_pages.CachedPages.find.Goals as goal

pub invariant_of-self : goal.invariant_of-self
invariant_of-self g c =
    let old = c.args.self.now in
    record {
      are_current = moved g.S.PageStore old.store (copies_of old.copies)
          (copies_of c.find.new.self) c.args.n old.are_current c.find.ensures.copies;
    }

pub returns-clause-found : goal.returns-clause-found
returns-clause-found g c h hit =
    let old = c.args.self.now in
    let can = c.is_readable.ensures.0 c.if-not-is_readable.false in
    found_current g.S.PageStore old.store (copies_of old.copies) c.args.n old.are_current
    c.find.result c.find.new.page _ c.find.ensures.page hit h can.0 (inr (can.1, can.2))
