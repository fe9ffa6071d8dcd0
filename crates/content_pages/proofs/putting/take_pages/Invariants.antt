use Rattle.std.proofs.Common.{◌≡◌, ◌≢◌, [], ◌+◌, ◌≤◌, length, AllPairs}
use Rattle.std.specs.List.{AllByRecursion}
use Rattle.page_model.specs.Space.{Space}
use Rattle.page_io.specs.Views.{body_at, ReadsOnly, MayEnd}
use Rattle.free_pages.specs.FreeList.{HasEnds, IsFreeList, IsApart}
use Rattle.free_pages.specs.Giving.{AreTaken}
use Rattle.content_pages.specs.Staging.{MayEndWithAll}
use Rattle.content_pages.proofs.ContentTakes.{AreTheNext}
use Rattle.content_pages.proofs.putting.take_pages.Given as goal

abbrev pub invariant-loop-page : goal.invariant-loop-page
invariant-loop-page g l = record {
  reads : ReadsOnly g.S.PageStore l.fn.store l.store;
  many : length l.pages.items ≡ l._page;
  numbered : AllByRecursion (λ n. 1 ≤ n) l.pages.items;
  distinct : AllPairs (λ n m. n ≢ m) l.pages.items;
  taken : g.S.PageStore.honest l.fn.store
      → AreTaken (body_at g.S.PageStore l.fn.store) l.fn.space l.pages.items l.space;
  grown : l.space.file_end ≤ l.fn.space.file_end + l._page;
  ends : HasEnds l.fn.space → HasEnds l.space;
  may_end : MayEnd (g.S.PageStore.state l.fn.store) l.fn.space.file_end
      → MayEndWithAll (g.S.PageStore.state l.fn.store) l.pages.items l.space.file_end;
  exact : g.S.PageStore.honest l.fn.store → (s : Space)
      → IsFreeList (body_at g.S.PageStore l.fn.store) l.fn.space s → IsApart [] s
      → AreTheNext (body_at g.S.PageStore l.fn.store) s l._page l.pages.items l.space;
}
