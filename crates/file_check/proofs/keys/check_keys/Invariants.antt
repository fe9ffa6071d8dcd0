use Rattle.std.proofs.Common.{◌≡◌, ◌⊎◌}
use Rattle.page_io.specs.Views.{body_at, ReadsOnly}
use Rattle.page_io.specs.BucketPages.{page_records}
use Rattle.bucket_chain.proofs.Walks.{IsUnderWay}
use Rattle.file_check.proofs.KeyPasses.{IsBefore}
use Rattle.file_check.proofs.ToldFlaws.{Keeps}
use Rattle.file_check.proofs.keys.check_keys.Given as goal

abbrev pub invariant-loop-step : goal.invariant-loop-step
invariant-loop-step g l = record {
  kinds : (l.kind ≡ 3) ⊎ (l.kind ≡ 4);
  reads : ReadsOnly g.S.PageStore l.fn.store l.store;
  told : Keeps (g.W.Watch.has_told l.fn.watch) (g.W.Watch.has_told l.watch);
  walked : g.S.PageStore.honest l.fn.store
      → IsUnderWay (body_at g.S.PageStore l.fn.store) l.fn.head
      (IsBefore l.fn.n (page_records l.page.bytes)) l.at l.kind l._step;
}
