use Rattle.std.proofs.Common.{arith}
use Rattle.lin_addr.specs.Shapes.{shape_of}
use Rattle.lin_addr.proofs.Intervals.{intervals, from_zero}
use Rattle.lin_addr.proofs.laws.buckets_are_intervals.Goals as goal

pub returns-clause-intervals : goal.returns-clause-intervals
returns-clause-intervals c = λ shape.
    intervals (shape_of shape) shape.split_in (let low = shape.low_level in omega arith)

pub returns-clause-from_zero : goal.returns-clause-from_zero
returns-clause-from_zero c = λ shape.
    from_zero (shape_of shape) shape.split_in (let low = shape.low_level in omega arith)
