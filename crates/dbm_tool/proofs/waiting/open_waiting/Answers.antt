use Rattle.std.proofs.Common.{rules, subst}
use Rattle.dbm_tool.proofs.Tries.{once_more}
use Rattle.dbm_tool.proofs.waiting.open_waiting.Goals as goal

pub loop-again-preserved : goal.loop-again-preserved
loop-again-preserved g c =
    let called : goal.F-post g c.args.opening c.opening.result = search rules in
    once_more (goal.F-post g c.args.opening) c.loop-again._again c.in-Err.refusal
    c.loop-again.invariant
    (subst (λ result. goal.F-post g c.args.opening result) c.in-Err.is called) (search rules)
