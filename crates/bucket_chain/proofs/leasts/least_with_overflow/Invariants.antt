use Rattle.std.proofs.Common.{ℕ, List, map, IfSome}
use Rattle.page_model.specs.Pages.{Record}
use Rattle.page_io.specs.Versions.{model_version}
use Rattle.page_io.specs.Views.{body_at, ReadsOnly}
use Rattle.bucket_chain.specs.Bests.{pass_from, slot_of, IsRankedAt, IsHeadRead}
use Rattle.bucket_chain.specs.Chains.{record_pair}
use Rattle.bucket_chain.specs.Leasts.{IsLeast}
use Rattle.bucket_chain.proofs.LeastWalks.{IsBestSoFar}
use Rattle.bucket_chain.proofs.leasts.least_with_overflow.Given as goal

abbrev pub invariant-loop-step : goal.invariant-loop-step
invariant-loop-step g l = record {
  reads : ReadsOnly g.S.PageStore l.fn.store l.store;
  ranked : IfSome l.best (IsRankedAt l.ranked);
  so_far : (head : ℕ) (records : List Record)
      → IsLeast (map record_pair records) (pass_from l.last) l.fn.ranked (slot_of l.fn.best)
      → IsBestSoFar (g.S.PageStore.honest l.fn.store
      × IsHeadRead (model_version l.version)
      (body_at g.S.PageStore l.fn.store) head l.fn.first records)
      (body_at g.S.PageStore l.fn.store) head l.at 4 l._step (pass_from l.last)
      l.ranked (slot_of l.best);
}
