use Rattle.page_io.specs.Views.{body_at, ReadsOnly}
use Rattle.bucket_chain.specs.Hits.{IsLinkKind}
use Rattle.bucket_chain.proofs.Hits.{IsTracked}
use Rattle.bucket_chain.proofs.removes.find_hit.Given as goal

abbrev pub invariant-loop-step : goal.invariant-loop-step
invariant-loop-step g l = record {
  kinds : IsLinkKind l.kind;
  prior_kinds : IsLinkKind l.prior_kind;
  reads : ReadsOnly g.S.PageStore l.fn.store l.store;
  walked : g.S.PageStore.honest l.fn.store
      → IsTracked (body_at g.S.PageStore l.fn.store) l.fn.head l.key l.prior l.prior_kind l.at
      l.kind l._step;
}
