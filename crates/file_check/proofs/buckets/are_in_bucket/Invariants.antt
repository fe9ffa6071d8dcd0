use Rattle.std.proofs.Common.{◌≡◌}
use Rattle.page_model.specs.Placement.{key_bucket}
use Rattle.lin_addr.specs.Shapes.{shape_of}
use Rattle.page_io.specs.BucketPages.{page_records}
use Rattle.file_check.proofs.BucketRecords.{AreFirst}
use Rattle.file_check.proofs.buckets.are_in_bucket.Given as goal

abbrev pub invariant-loop-slot : goal.invariant-loop-slot
invariant-loop-slot l = AreFirst (λ r. key_bucket (shape_of l.shape) r.key ≡ l.bucket)
    (page_records l.page.bytes) l.slot
