use Rattle.std.proofs.Common.{◌≡◌, ◌++◌, ℕ, List, length, flat_map, take}
use Rattle.page_model.specs.Chain.{Chain, pages_in}
use Rattle.page_io.specs.Views.{body_at, ReadsOnly}
use Rattle.file_check.specs.Marks.{AreMarked, MayBeSeen}
use Rattle.seg_table.specs.MetaPages.{model_meta}
use Rattle.file_check.specs.Segments.{AreHeadChains, AreHeadsChecked, AreCounted}
use Rattle.file_check.proofs.ToldFlaws.{Keeps}
use Rattle.file_check.proofs.segments.check_heads.Given as goal

abbrev pub invariant-loop-i : goal.invariant-loop-i
invariant-loop-i g l = record {
  length : length l.marks ≡ length l.fn.marks;
  reads : ReadsOnly g.S.PageStore l.fn.store l.store;
  told : Keeps (g.W.Watch.has_told l.fn.watch) (g.W.Watch.has_told l.watch);
  sound : g.S.PageStore.honest l.fn.store → (seen : List ℕ)
      → AreMarked l.fn.marks (g.S.PageStore.state l.fn.store).end seen
      → AreHeadsChecked (body_at g.S.PageStore l.fn.store) (g.S.PageStore.state l.fn.store).end
      (model_meta l.fn.meta) l.fn.page.bytes l.fn.first l.i l.pairs l.marks seen;
  exact : g.S.PageStore.honest l.fn.store → (seen : List ℕ) (chains : List Chain)
      → AreMarked l.fn.marks (g.S.PageStore.state l.fn.store).end seen
      → AreHeadChains (body_at g.S.PageStore l.fn.store) (model_meta l.fn.meta) l.fn.page.bytes
      l.fn.first l.fn.count chains
      → MayBeSeen (g.S.PageStore.state l.fn.store).end (seen ++ flat_map pages_in chains)
      → AreCounted (take l.i chains) (g.S.PageStore.state l.fn.store).end l.pairs l.marks seen;
}
