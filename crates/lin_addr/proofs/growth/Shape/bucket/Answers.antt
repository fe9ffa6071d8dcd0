use Rattle.lin_addr.specs.Shapes.{shape_of}
use Rattle.lin_addr.proofs.Masks.{narrow, broad}
use Rattle.lin_addr.proofs.growth.Shape.bucket.Goals as goal

pub returns-then-bucket-max_bucket-clause-address : goal.returns-then-bucket-max_bucket-clause-address
returns-then-bucket-max_bucket-clause-address c =
    narrow (shape_of c.args.self.now) c.args.hash c.power-low_mask.result c.power-high_mask.result
    c.buckets-max_bucket.result
    c.args.self.now.split_in c.power-low_mask.ensures c.power-high_mask.ensures
    c.buckets-max_bucket.ensures c.if-bucket-max_bucket.true

pub returns-else-bucket-max_bucket-clause-address : goal.returns-else-bucket-max_bucket-clause-address
returns-else-bucket-max_bucket-clause-address c =
    broad (shape_of c.args.self.now) c.args.hash c.power-low_mask.result c.power-high_mask.result
    c.buckets-max_bucket.result
    c.args.self.now.split_in c.power-low_mask.ensures c.power-high_mask.ensures
    c.buckets-max_bucket.ensures c.if-bucket-max_bucket.false
