use Rattle.std.proofs.Common.{rules}
use Rattle.lin_addr.specs.Shapes.{shape_of}
use Rattle.lin_addr.proofs.Masks.{moved}
use Rattle.lin_addr.proofs.Intervals.{cut}
use Rattle.lin_addr.proofs.growth.Shape.grown.Goals as goal

pub returns-clause-moves : goal.returns-clause-moves
returns-clause-moves c = moved (shape_of c.args.self.now) _ c.args.self.now.split_in (search rules)

pub returns-clause-cuts : goal.returns-clause-cuts
returns-clause-cuts c =
    cut (shape_of c.args.self.now) _ c.args.self.now.split_in c.args.self.now.low_level
    (search rules)

pub invariant_of-result : goal.invariant_of-result
invariant_of-result c = search rules
