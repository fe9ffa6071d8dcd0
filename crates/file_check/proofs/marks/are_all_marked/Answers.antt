use Rattle.std.proofs.Common.{refl, arith}
use Rattle.file_check.proofs.Seen.{each_seen, up_to}
use Rattle.file_check.proofs.marks.are_all_marked.Goals as goal

pub loop-n-init : goal.loop-n-init
loop-n-init c = record { marked = λ k some below. absurd (omega (arith, some, below)) }

pub loop-n-preserved : goal.loop-n-preserved
loop-n-preserved c = record {
  marked = up_to _ c.loop-n.n c.loop-n.invariant.marked c.if-not-marks-n.false;
}

pub returns : goal.returns
returns c seen are = (
  λ is. each_seen _ _ seen are (λ k some below. c.loop-n.invariant.marked k some (omega (arith, below, c.loop-n-test.false))),
  λ each. refl,
)
