use Rattle.std.proofs.Common.{inl, inr, arith}
use Rattle.file_check.proofs.Seen.{marked_twice, no_page}
use Rattle.file_check.proofs.marks.mark.Goals as goal
use Rattle.file_check.proofs.marks.mark.Goals.{then-n-eq0-via-then-n-eq0, then-n-eq0-via-else-n-eq0+then-n-end, then-n-eq0-via-else-n-eq0+else-n-end+then-marks-n}

pub returns-then-n-eq0-clause-may_be : goal.returns-then-n-eq0-clause-may_be
returns-then-n-eq0-clause-may_be c seen are = (
  λ is. absurd (cc),
  λ may. absurd (elim c.then-n-eq0.branch [
    | then-n-eq0-via-then-n-eq0 w ↦ no_page c.args.end seen c.args.n (inl w.if-n-eq0.true) may
    | then-n-eq0-via-else-n-eq0+then-n-end w ↦
        no_page c.args.end seen c.args.n (inr w.if-n-end.true) may
    | then-n-eq0-via-else-n-eq0+else-n-end+then-marks-n w ↦
        marked_twice _ _ seen c.args.n are (omega (arith, w.if-n-eq0.false)) (omega (arith, w.if-n-end.false)) w.if-marks-n.true may
  ]),
)
