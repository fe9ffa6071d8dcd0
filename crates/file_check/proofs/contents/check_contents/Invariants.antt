use Rattle.std.proofs.Common.{◌≡◌, ℕ, List, length}
use Rattle.page_io.specs.Versions.{model_version}
use Rattle.page_io.specs.Views.{body_at, ReadsOnly}
use Rattle.file_check.specs.Marks.{AreMarked}
use Rattle.page_io.specs.BucketPages.{page_records}
use Rattle.file_check.proofs.EntryChecks.{AreFirstRead}
use Rattle.file_check.proofs.ToldFlaws.{Keeps}
use Rattle.file_check.proofs.contents.check_contents.Given as goal

abbrev pub invariant-loop-slot : goal.invariant-loop-slot
invariant-loop-slot g l = record {
  marks : length l.marks ≡ length l.fn.marks;
  reads : ReadsOnly g.S.PageStore l.fn.store l.store;
  told : Keeps (g.W.Watch.has_told l.fn.watch) (g.W.Watch.has_told l.watch);
  part : g.S.PageStore.honest l.fn.store → (seen : List ℕ)
      → AreMarked l.fn.marks (g.S.PageStore.state l.fn.store).end seen
      → AreFirstRead (model_version l.fn.version) (body_at g.S.PageStore l.fn.store)
      (g.S.PageStore.state l.fn.store).end (page_records l.page.bytes) l.slot l.marks seen;
}
