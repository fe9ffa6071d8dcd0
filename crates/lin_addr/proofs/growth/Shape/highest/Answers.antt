use Rattle.std.proofs.Common.{arith}
use Rattle.lin_addr.specs.Shapes.{shape_of}
use Rattle.lin_addr.proofs.Highest.{fits_width, filled_low, filled_rank}
use Rattle.lin_addr.proofs.Intervals.{own}
use Rattle.lin_addr.proofs.growth.Shape.highest.Goals as goal

pub returns-clause-there : goal.returns-clause-there
returns-clause-there c =
    (c.width.ensures.decides _).1 (filled_low c.width.result c.args.bucket (omega arith)
    (fits_width c.width.result c.args.bucket ((c.width.ensures.decides c.args.bucket).0
    (own (shape_of c.args.self.now) c.args.self.now.split_in c.args.bucket c.requires))))

pub returns-clause-greatest : goal.returns-clause-greatest
returns-clause-greatest c = λ hash below here.
    filled_rank c.width.result c.args.bucket (omega arith)
    (fits_width c.width.result c.args.bucket ((c.width.ensures.decides c.args.bucket).0
    (own (shape_of c.args.self.now) c.args.self.now.split_in c.args.bucket c.requires)))
    hash ((c.width.ensures.decides hash).0 here)
