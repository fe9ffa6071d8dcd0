-- A handle that is usable was so before each call.
use Rattle.std.proofs.Common.{◌≡◌, inl, inr, ⊎_elim, Bool, true, false, List, [], ◌∷◌, refl, sym, ◌∙◌, ap}
use Rattle.dbm_model.specs.Calls.{Call, Store, Fetch, Delete, First, Next, Error, Clear, Upgrade, Reply, End, Broken}
use Rattle.dbm_model.specs.States.{State, Handle}
use Rattle.dbm_model.specs.Steps.{Refuses, Step, Run}
use Rattle.dbm_model.proofs.RuleLemmas.{broken_refuses, ByCase, falls, if_broken}
use Rattle.dbm_model.proofs.StayLemmas.{error_told, error_cleared}

-- a broken handle stays so
refused_broken : (before after : Handle) (call : Call) (reply : Reply)
    → ByCase before call (Refuses Broken) reply after → before.state.usable ≡ false
    → after.state.usable ≡ false
refused_broken before after call reply (inl is) broken = ap (λ (t : State). t.usable) is.1 ∙ broken
refused_broken before after call reply (inr is) broken = absurd is

stays_broken : (before after : Handle) (call : Call) (reply : Reply) → Step before call reply after
    → before.state.usable ≡ false → after.state.usable ≡ false
stays_broken before after (Store key content mode) reply step broken =
    refused_broken before after (Store key content mode) reply
    (falls before after (Store key content mode) reply (Refuses Broken)
    (if_broken before (Store key content mode) broken) step) broken
stays_broken before after (Fetch key) reply step broken =
    refused_broken before after (Fetch key) reply
    (falls before after (Fetch key) reply (Refuses Broken)
    (if_broken before (Fetch key) broken) step) broken
stays_broken before after (Delete key) reply step broken =
    refused_broken before after (Delete key) reply
    (falls before after (Delete key) reply (Refuses Broken)
    (if_broken before (Delete key) broken) step) broken
stays_broken before after First reply step broken =
    refused_broken before after First reply
    (falls before after First reply (Refuses Broken) (if_broken before First broken) step)
    broken
stays_broken before after Next reply step broken =
    refused_broken before after Next reply
    (falls before after Next reply (Refuses Broken) (if_broken before Next broken) step)
    broken
stays_broken before after Error reply step broken =
    ap (λ (t : State). t.usable) (error_told before after reply step).1 ∙ broken
stays_broken before after Clear reply step broken =
    ap (λ (t : State). t.usable) (error_cleared before after reply step).1 ∙ broken
stays_broken before after Upgrade reply step broken =
    refused_broken before after Upgrade reply
    (falls before after Upgrade reply (Refuses Broken) (if_broken before Upgrade broken) step) broken

pub was_usable : (before after : Handle) (call : Call) (reply : Reply)
    → Step before call reply after → after.state.usable ≡ true → before.state.usable ≡ true
was_usable before after call reply step now = by_mark before.state.usable refl
  where
    by_mark : (b : Bool) → before.state.usable ≡ b → before.state.usable ≡ true
    by_mark true is = is
    by_mark false is = absurd (let stays = stays_broken before after call reply step is in cc)

pub ends_usable : (mid after : Handle) → Step mid Next End after → mid.state.usable ≡ true
ends_usable mid after step = by_mark mid.state.usable refl
  where
    by_mark : (b : Bool) → mid.state.usable ≡ b → mid.state.usable ≡ true
    by_mark true is = is
    by_mark false is = absurd (⊎_elim (λ e. cc) (⊎_elim (λ e. cc) (λ e. cc))
        (broken_refuses mid after Next End step is))

pub run_was_usable : (before after : Handle) (calls : List Call) (replies : List Reply)
    → Run before calls replies after → after.state.usable ≡ true → before.state.usable ≡ true
run_was_usable before after [] [] run now = ap (λ (h : Handle). h.state.usable) (sym run) ∙ now
run_was_usable before after (call ∷ calls) (reply ∷ replies) run now =
    was_usable before run.0 call reply run.1
    (run_was_usable run.0 after calls replies run.2 now)
run_was_usable before after [] (reply ∷ replies) run now = absurd run
run_was_usable before after (call ∷ calls) [] run now = absurd run
