use Rattle.std.proofs.Common.{◌≡◌, ◌++◌, ℕ, List, length, get_or, take}
use Rattle.page_io.specs.Views.{body_at, ReadsOnly}
use Rattle.file_check.specs.Marks.{AreMarked, MayBeSeen}
use Rattle.file_check.specs.FreeLists.{IsList}
use Rattle.file_check.proofs.FreeReads.{IsRead}
use Rattle.file_check.proofs.ToldFlaws.{Keeps}
use Rattle.file_check.proofs.free.check_free.Given as goal

abbrev pub invariant-loop : goal.invariant-loop
invariant-loop g l = record {
  length : length l.marks ≡ length l.fn.marks;
  reads : ReadsOnly g.S.PageStore l.fn.store l.store;
  told : Keeps (g.W.Watch.has_told l.fn.watch) (g.W.Watch.has_told l.watch);
  sound : g.S.PageStore.honest l.fn.store → (seen : List ℕ)
      → AreMarked l.fn.marks (g.S.PageStore.state l.fn.store).end seen
      → IsRead (body_at g.S.PageStore l.fn.store) (g.S.PageStore.state l.fn.store).end
      l.fn.head l.counter l.at l.marks seen;
  exact : g.S.PageStore.honest l.fn.store → (seen free : List ℕ)
      → AreMarked l.fn.marks (g.S.PageStore.state l.fn.store).end seen
      → IsList (body_at g.S.PageStore l.fn.store) l.fn.head l.fn.count free
      → MayBeSeen (g.S.PageStore.state l.fn.store).end (seen ++ free)
      → (l.at ≡ get_or free l.counter 0)
      × AreMarked l.marks (g.S.PageStore.state l.fn.store).end (seen ++ take l.counter free);
}
