use Rattle.std.proofs.Common.{◌<◌, ◌≤◌, ◌^◌, inl, inr, arith}
use Rattle.std.proofs.lemmas.Bool.Decides.{nat_tests}
use Rattle.lin_addr.specs.Shapes.{shape_of}
use Rattle.lin_addr.proofs.Intervals.{wide, narrow}
use Rattle.lin_addr.proofs.growth.Shape.width.Goals as goal
use Rattle.lin_addr.proofs.growth.Shape.width.Goals.{then-bucket-self, else-bucket-self}

pub returns-then-bucket-power-clause-decides : goal.returns-then-bucket-power-clause-decides
returns-then-bucket-power-clause-decides c = λ hash.
    wide (shape_of c.args.self.now) c.args.self.now.split_in c.args.bucket hash c.requires
    (elim c.if-bucket-self.branch [
      | then-bucket-self w ↦ inl w.if-bucket-self.true
      | else-bucket-self w ↦ inr (grind (arith, nat_tests))
    ])

pub returns-else-bucket-power-clause-decides : goal.returns-else-bucket-power-clause-decides
returns-else-bucket-power-clause-decides c =
    let whole : (c.args.self.now.split ≤ c.args.bucket)
    × (c.args.bucket < 2 ^ c.args.self.now.level) =
    elim c.if-bucket-self.branch [
      | then-bucket-self w ↦ absurd (grind (arith, nat_tests))
      | else-bucket-self w ↦ (w.if-bucket-self.false, grind (arith, nat_tests))
    ] in λ hash. narrow (shape_of c.args.self.now) c.args.self.now.split_in c.args.bucket hash
    whole.0 whole.1
