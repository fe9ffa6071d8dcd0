use Rattle.std.proofs.Common.{◌-◌, ◌^◌, ◌<◌, option_copied}
use Rattle.dbm_model.specs.KeyOrder.{rank}
use Rattle.page_model.specs.Valid.{meta_buckets}
use Rattle.page_io.specs.Views.{body_at, ReadsOnly}
use Rattle.lin_addr.specs.Intervals.{Precedes}
use Rattle.seg_table.specs.MetaPages.{model_meta}
use Rattle.bucket_chain.specs.Leasts.{pass_behind}
use Rattle.linear_hash.specs.Tables.{shape_in, ForEachTable}
use Rattle.linear_hash.specs.Passing.{IsToRead, HaveNone}
use Rattle.linear_hash.proofs.Passes.{IsLeft}
use Rattle.linear_hash.proofs.passing.next_pair.Given as goal

abbrev pub invariant-loop-head : goal.invariant-loop-head
invariant-loop-head g l = record {
  reads : ReadsOnly g.S.PageStore l.fn.store l.store;
  within : l.bucket < meta_buckets (model_meta l.meta);
  to_read : IsToRead (model_meta l.meta) (pass_behind (option_copied l.fn.last)) l.bucket;
  passed : g.S.PageStore.honest l.fn.store
      → HaveNone (body_at g.S.PageStore l.fn.store) (model_meta l.meta)
      (pass_behind (option_copied l.fn.last))
      (λ other. Precedes (shape_in (model_meta l.meta)) other l.bucket);
  left : ForEachTable g.S.PageStore l.fn.store (model_meta l.meta) (λ p.
      IsLeft p (pass_behind (option_copied l.fn.last)) l.bucket);
}

-- the ranks of the buckets rise
abbrev pub decreases-loop-head : goal.decreases-loop-head
decreases-loop-head g l = 2 ^ 32 - rank l.bucket
