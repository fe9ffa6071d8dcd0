use Rattle.std.proofs.Common.{◌≡◌, ℕ, ◌-◌, ◌*◌, List, length}
use Rattle.page_io.specs.Views.{body_at, ReadsOnly}
use Rattle.file_check.specs.Marks.{AreMarked}
use Rattle.file_check.specs.BucketChains.{AreContentPages}
use Rattle.file_check.proofs.ContentChecks.{IsPartChecked, IsContentRest}
use Rattle.file_check.proofs.ToldFlaws.{Keeps}
use Rattle.file_check.proofs.contents.check_content.Given as goal

abbrev pub invariant-loop-page : goal.invariant-loop-page
invariant-loop-page g l = record {
  marks : length l.marks ≡ length l.fn.marks;
  reads : ReadsOnly g.S.PageStore l.fn.store l.store;
  told : Keeps (g.W.Watch.has_told l.fn.watch) (g.W.Watch.has_told l.watch);
  left : l.left ≡ l.fn.long - 2032 * l._page;
  part : g.S.PageStore.honest l.fn.store → (seen : List ℕ)
      → AreMarked l.fn.marks (g.S.PageStore.state l.fn.store).end seen
      → IsPartChecked (body_at g.S.PageStore l.fn.store) (g.S.PageStore.state l.fn.store).end
      l.fn.first l.fn.long l.at l._page l.left l.marks seen;
  rest : g.S.PageStore.honest l.fn.store → (seen pages content : List ℕ)
      → AreMarked l.fn.marks (g.S.PageStore.state l.fn.store).end seen
      → AreContentPages (body_at g.S.PageStore l.fn.store) l.fn.first l.fn.long pages content
      → IsContentRest (body_at g.S.PageStore l.fn.store) (g.S.PageStore.state l.fn.store).end
      l.at l.left pages l.marks seen;
}
