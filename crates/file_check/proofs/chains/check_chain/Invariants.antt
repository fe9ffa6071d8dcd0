use Rattle.std.proofs.Common.{◌≡◌, ◌⊎◌, ℕ, List, length}
use Rattle.page_io.specs.Versions.{model_version}
use Rattle.page_io.specs.Views.{body_at, ReadsOnly}
use Rattle.file_check.specs.Marks.{AreMarked}
use Rattle.lin_addr.specs.Shapes.{shape_of}
use Rattle.file_check.proofs.PartChains.{IsPart}
use Rattle.file_check.proofs.ToldFlaws.{Keeps}
use Rattle.file_check.proofs.chains.check_chain.Given as goal

abbrev pub invariant-loop-step : goal.invariant-loop-step
invariant-loop-step g l = record {
  kinds : (l.kind ≡ 3) ⊎ (l.kind ≡ 4);
  marks : length l.marks ≡ length l.fn.marks;
  reads : ReadsOnly g.S.PageStore l.fn.store l.store;
  told : Keeps (g.W.Watch.has_told l.fn.watch) (g.W.Watch.has_told l.watch);
  part : g.S.PageStore.honest l.fn.store → (seen : List ℕ)
      → AreMarked l.fn.marks (g.S.PageStore.state l.fn.store).end seen
      → IsPart (model_version l.fn.version) (body_at g.S.PageStore l.fn.store)
      (g.S.PageStore.state l.fn.store).end
      l.fn.head (shape_of l.shape) l.bucket l.at l.kind l._step l.pairs l.marks seen;
}
