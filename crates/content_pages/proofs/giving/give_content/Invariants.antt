use Rattle.std.proofs.Common.{◌≡◌, ◌+◌, ◌≤◌, length}
use Rattle.page_io.specs.Views.{body_at, StagesOnly, MayEnd}
use Rattle.free_pages.specs.FreeList.{HasEnds}
use Rattle.content_pages.proofs.ContentGivings.{IsGivenTo}
use Rattle.content_pages.proofs.giving.give_content.Given as goal

abbrev pub invariant-loop-page : goal.invariant-loop-page
invariant-loop-page g l = record {
  stages : StagesOnly g.S.PageStore l.fn.store l.store;
  few : length (g.S.PageStore.state l.store).staged
      ≤ length (g.S.PageStore.state l.fn.store).staged + l._page;
  ends : HasEnds l.fn.space → HasEnds l.given;
  end : l.given.file_end ≡ l.fn.space.file_end;
  may_end : MayEnd (g.S.PageStore.state l.fn.store) l.fn.space.file_end
      → MayEnd (g.S.PageStore.state l.store) l.given.file_end;
  given : g.S.PageStore.honest l.fn.store
      → IsGivenTo (body_at g.S.PageStore l.fn.store) (body_at g.S.PageStore l.store) l.fn.space
      l.given l.fn.first l.at l._page;
}
