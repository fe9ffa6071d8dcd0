use Rattle.dbm_tool.proofs.Tries.{HasWaited}
use Rattle.dbm_tool.proofs.waiting.open_waiting.Given as goal

abbrev pub invariant-loop-again : goal.invariant-loop-again
invariant-loop-again g l = HasWaited (goal.F-post g l.opening) l._again
