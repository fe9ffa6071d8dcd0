use Rattle.seg_table.proofs.Segments.{heads_counted}
use Rattle.seg_table.proofs.segment.heads_of.Goals as goal

pub returns : goal.returns
returns c = heads_counted c.args.s c.buckets.result _ _ _ _ c.buckets.type_inv c.buckets.ensures
    c.saturating_mul.ensures c.saturating_sub.ensures c.min.ensures
