use Rattle.std.proofs.Common.{◌≡◌, ◌⊎◌}
use Rattle.page_io.specs.Views.{body_at, ReadsOnly}
use Rattle.bucket_chain.specs.Walks.{LacksKey}
use Rattle.bucket_chain.proofs.Walks.{IsUnderWay}
use Rattle.bucket_chain.proofs.content_lookups.lookup_content.Given as goal

abbrev pub invariant-loop-step : goal.invariant-loop-step
invariant-loop-step g l = record {
  kinds : (l.kind ≡ 3) ⊎ (l.kind ≡ 4);
  reads : ReadsOnly g.S.PageStore l.fn.store l.store;
  walked : g.S.PageStore.honest l.fn.store
      → IsUnderWay (body_at g.S.PageStore l.fn.store) l.fn.head (LacksKey l.key) l.at
      l.kind l._step;
}
