-- What calls leave: the map of the changes that were acknowledged.
use Rattle.std.proofs.Common.{◌≡◌, inl, inr, ℕ, true, false, ◌||◌, List, [], ◌∷◌, None, refl, sym, ◌∙◌, ap, ap₂, subst}
use Rattle.dbm_model.specs.Bounds.{Bounds}
use Rattle.dbm_model.specs.Calls.{Call, Store, Fetch, Delete, First, Next, Error, Clear, Upgrade, Reply, Stored, Deleted, Upgraded, Number, Broken}
use Rattle.dbm_model.specs.Changes.{map_after, bounds_after}
use Rattle.dbm_model.specs.Pairs.{Contents}
use Rattle.dbm_model.specs.States.{State, Handle, error_number}
use Rattle.dbm_model.specs.Steps.{Tells, Refuses, usable_case, Step, Run}
use Rattle.dbm_model.proofs.CaseLemmas.{map_of_usable, bounds_of_usable}
use Rattle.dbm_model.proofs.RuleLemmas.{ByCase, falls, if_broken}
use Rattle.dbm_model.specs.Members.{Holding, held}
use Rattle.dbm_model.specs.SessionChanges.{of_answer, of_calls, is_device, has_device, LeftBy}
use Rattle.dbm_model.proofs.Leaving.{left_append, AllMade, all_append}

-- ---- a broken handle

-- it stays broken, and is not refused by the device again
record StaysBroken (reply : Reply) (after : Handle) : Type 0 where
  pub broken : after.state.usable ≡ false
  pub other : is_device reply ≡ false

refused_again : (before after : Handle) (call : Call) (reply : Reply)
    → before.state.usable ≡ false → ByCase before call (Refuses Broken) reply after
    → StaysBroken reply after
refused_again before after call reply broken (inl is) = record {
  broken = ap (λ (s : State). s.usable) is.1 ∙ broken;
  other = ap is_device is.0;
}
refused_again before after call reply broken (inr is) = absurd is

told_again : (before after : Handle) (call : Call) (number : ℕ) (told : State) (reply : Reply)
    → told.usable ≡ false → ByCase before call (Tells (Number number) told) reply after
    → StaysBroken reply after
told_again before after call number told reply broken (inl is) = record {
  broken = ap (λ (s : State). s.usable) is.1 ∙ broken;
  other = ap is_device is.0;
}
told_again before after call number told reply broken (inr is) = absurd is

stays_broken : (before after : Handle) (call : Call) (reply : Reply) → Step before call reply after
    → before.state.usable ≡ false → StaysBroken reply after
stays_broken before after (Store key content mode) reply step broken =
    refused_again before after (Store key content mode) reply broken
    (falls before after (Store key content mode) reply (Refuses Broken)
    (if_broken before (Store key content mode) broken) step)
stays_broken before after (Fetch key) reply step broken =
    refused_again before after (Fetch key) reply broken
    (falls before after (Fetch key) reply (Refuses Broken)
    (if_broken before (Fetch key) broken) step)
stays_broken before after (Delete key) reply step broken =
    refused_again before after (Delete key) reply broken
    (falls before after (Delete key) reply (Refuses Broken)
    (if_broken before (Delete key) broken) step)
stays_broken before after First reply step broken =
    refused_again before after First reply broken
    (falls before after First reply (Refuses Broken)
    (if_broken before First broken) step)
stays_broken before after Next reply step broken =
    refused_again before after Next reply broken
    (falls before after Next reply (Refuses Broken)
    (if_broken before Next broken) step)
stays_broken before after Error reply step broken =
    told_again before after Error (error_number before.state.error) before.state reply broken
    (falls before after Error reply (usable_case before.capacity before.state Error)
    (if_broken before Error broken) step)
stays_broken before after Clear reply step broken =
    told_again before after Clear 0 (record before.state { error = None }) reply broken
    (falls before after Clear reply (usable_case before.capacity before.state Clear)
    (if_broken before Clear broken) step)
stays_broken before after Upgrade reply step broken =
    refused_again before after Upgrade reply broken
    (falls before after Upgrade reply (Refuses Broken) (if_broken before Upgrade broken) step)

usable_before : (before after : Handle) (call : Call) (reply : Reply) → Step before call reply after
    → after.state.usable ≡ true → before.state.usable ≡ true
usable_before before after call reply step usable = elim before.state.usable as
    (λ b. before.state.usable ≡ b → b ≡ true) [
      | true ↦ λ is. refl
      | false ↦ λ is. absurd (let now = (stays_broken before after call reply step is).broken in cc)
    ] refl

usable_first : (first last : Handle) (calls : List Call) (replies : List Reply)
    → Run first calls replies last → last.state.usable ≡ true → first.state.usable ≡ true
usable_first first last [] [] run usable = subst (λ (h : Handle). h.state.usable ≡ true) run usable
usable_first first last [] (reply ∷ replies) run usable = absurd run
usable_first first last (call ∷ calls) [] run usable = absurd run
usable_first first last (call ∷ calls) (reply ∷ replies) run usable =
    usable_before first run.0 call reply run.1
    (usable_first run.0 last calls replies run.2 usable)

-- the device refuses no call of a broken handle
pub none_by_device : (first last : Handle) (calls : List Call) (replies : List Reply)
    → Run first calls replies last → first.state.usable ≡ false → has_device replies ≡ false
none_by_device first last [] [] run broken = refl
none_by_device first last [] (reply ∷ replies) run broken = absurd run
none_by_device first last (call ∷ calls) [] run broken = refl
none_by_device first last (call ∷ calls) (reply ∷ replies) run broken =
    let s = stays_broken first run.0 call reply run.1 broken in
    ap₂ (λ a b. a || b) s.other (none_by_device run.0 last calls replies run.2 s.broken)

-- ---- a usable one

answer_left : (call : Call) (reply : Reply) (map : Contents) (bounds : Bounds)
    → LeftBy (of_answer call reply) (Holding map bounds)
    (Holding (map_after map call reply) (bounds_after bounds call reply))
answer_left (Store key content mode) Stored map bounds = refl
answer_left (Store key content mode) reply map bounds = refl
answer_left (Delete key) Deleted map bounds = refl
answer_left (Delete key) reply map bounds = refl
answer_left Upgrade Upgraded map bounds = refl
answer_left Upgrade reply map bounds = refl
answer_left call reply map bounds = refl

pub answer_all : (call : Call) (reply : Reply) → AllMade (of_answer call reply)
answer_all (Store key content mode) Stored = tt
answer_all (Store key content mode) reply = tt
answer_all (Delete key) Deleted = tt
answer_all (Delete key) reply = tt
answer_all Upgrade Upgraded = tt
answer_all Upgrade reply = tt
answer_all call reply = tt

call_left : (before after : Handle) (call : Call) (reply : Reply) → Step before call reply after
    → after.state.usable ≡ true
    → LeftBy (of_answer call reply) (held before.state) (held after.state)
call_left before after call reply step usable =
    subst (LeftBy (of_answer call reply) (held before.state))
    (sym (ap₂ Holding (map_of_usable before after call reply step usable)
    (bounds_of_usable before after call reply step usable)))
    (answer_left call reply before.state.map before.state.bounds)

pub calls_left : (first last : Handle) (calls : List Call) (replies : List Reply)
    → Run first calls replies last → last.state.usable ≡ true
    → LeftBy (of_calls calls replies) (held first.state) (held last.state)
calls_left first last [] [] run usable = ap (λ (h : Handle). held h.state) run
calls_left first last [] (reply ∷ replies) run usable = absurd run
calls_left first last (call ∷ calls) [] run usable = absurd run
calls_left first last (call ∷ calls) (reply ∷ replies) run usable =
    left_append (of_answer call reply) (of_calls calls replies) (held first.state)
    (held run.0.state) (held last.state)
    (call_left first run.0 call reply run.1 (usable_first run.0 last calls replies run.2 usable))
    (calls_left run.0 last calls replies run.2 usable)

pub calls_all : (calls : List Call) (replies : List Reply) → AllMade (of_calls calls replies)
calls_all [] replies = tt
calls_all (call ∷ calls) [] = tt
calls_all (call ∷ calls) (reply ∷ replies) =
    all_append (of_answer call reply) (of_calls calls replies) (answer_all call reply)
    (calls_all calls replies)
