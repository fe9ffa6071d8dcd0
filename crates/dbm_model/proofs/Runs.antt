-- How runs go on.
use Rattle.std.proofs.Common.{List, [], ◌∷◌, ◌++◌, refl, subst}
use Rattle.dbm_model.specs.Calls.{Call, Reply}
use Rattle.dbm_model.specs.States.{Handle}
use Rattle.dbm_model.specs.Steps.{Step, Run}

-- one step more
pub run-push : (first mid last : Handle) (calls : List Call) (replies : List Reply) (call : Call)
    (reply : Reply) → Run first calls replies mid → Step mid call reply last
    → Run first (calls ++ call ∷ []) (replies ++ reply ∷ []) last
run-push first mid last [] [] call reply run step =
    (last, subst (λ (h : Handle). Step h call reply last) run step, refl)
run-push first mid last [] (r ∷ replies) call reply run step = absurd run
run-push first mid last (c ∷ calls) [] call reply run step = absurd run
run-push first mid last (c ∷ calls) (r ∷ replies) call reply run step =
    (run.0, run.1, run-push run.0 mid last calls replies call reply run.2 step)
