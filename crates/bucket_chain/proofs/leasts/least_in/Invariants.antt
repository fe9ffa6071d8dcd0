use Rattle.std.proofs.Common.{take}
use Rattle.bucket_chain.specs.Bests.{pass_from}
use Rattle.bucket_chain.proofs.LeastKeys.{IsBest, page_pairs}
use Rattle.bucket_chain.proofs.leasts.least_in.Given as goal

abbrev pub invariant-loop-slot : goal.invariant-loop-slot
invariant-loop-slot l =
    IsBest (take l.slot (page_pairs l.page)) (pass_from l.last) l.page l.best
