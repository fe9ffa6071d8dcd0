use Rattle.lin_addr.specs.Shapes.{shape_of}
use Rattle.lin_addr.proofs.Masks.{goes_up}
use Rattle.lin_addr.proofs.growth.Shape.split_goes_up.Goals as goal

pub returns-clause-place : goal.returns-clause-place
returns-clause-place c = goes_up (shape_of c.args.self.now) c.args.hash c.args.self.now.split_in
