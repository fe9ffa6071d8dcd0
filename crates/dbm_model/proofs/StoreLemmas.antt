-- Stores that were acknowledged.
use Rattle.std.proofs.Common.{◌≡◌, ◌⊎◌, ⊎_elim, ℕ, List, [], ◌∷◌, Bool, true, false, cond, refl, ap, subst, ◌∙◌}
use Rattle.std.specs.FinMap.{insert}
use Rattle.dbm_model.specs.Calls.{Mode, Replace, Store, Reply, Stored, Refused, Broken, Device}
use Rattle.dbm_model.specs.Changes.{with_pairs, StoresPutAll}
use Rattle.dbm_model.specs.Pairs.{Contents}
use Rattle.dbm_model.specs.States.{Handle}
use Rattle.dbm_model.specs.Steps.{usable_case, broken_case, Answers, Suffers, Step}
use Rattle.dbm_model.proofs.CaseLemmas.{map_of_usable, breaks_by_change}

-- a broken handle refuses each store
when_broken : (before after : Handle) (key content : List ℕ) (mode : Mode) (reply : Reply)
    → Step before (Store key content mode) reply after → before.state.usable ≡ false
    → reply ≡ Refused Broken
when_broken before after key content mode reply step was =
    let call = Store key content mode in
    ⊎_elim (λ is. is.0) (λ bad. absurd bad)
    (subst (λ (b : Bool). Answers before.state
    (cond b (usable_case before.capacity before.state call)
    (broken_case before.capacity before.state call)) reply after.state
    ⊎ Suffers before call (cond b (usable_case before.capacity before.state call)
    (broken_case before.capacity before.state call)) reply after) was step.answers)

-- after Stored the handle is usable
pub stays_usable : (before after : Handle) (key content : List ℕ) (mode : Mode)
    → Step before (Store key content mode) Stored after → after.state.usable ≡ false → ⊥
stays_usable before after key content mode step now =
    elim before.state.usable as (λ u. before.state.usable ≡ u → ⊥) [
      | true ↦ λ was. let told : Stored ≡ Refused Device =
          (breaks_by_change before after (Store key content mode) Stored step was now).1 in cc
      | false ↦ λ was. let told : Stored ≡ Refused Broken =
          when_broken before after key content mode Stored step was in cc
    ] refl

-- what was stored is in the map
pub stored_map : (before after : Handle) (key content : List ℕ) (mode : Mode)
    → Step before (Store key content mode) Stored after
    → after.state.map ≡ insert before.state.map key content
stored_map before after key content mode step =
    elim after.state.usable as (λ u.
    after.state.usable ≡ u → after.state.map ≡ insert before.state.map key content) [
      | true ↦ λ now. map_of_usable before after (Store key content mode) Stored step now
      | false ↦ λ now. absurd (stays_usable before after key content mode step now)
    ] refl

-- so are all of a run
pub stores_put_all : StoresPutAll
stores_put_all before after [] run = ap (λ (h : Handle). h.state.map) run
stores_put_all before after (pair ∷ pairs) run =
    stores_put_all run.0 after pairs run.2
    ∙ ap (λ (contents : Contents). with_pairs contents pairs)
    (stored_map before run.0 pair.0 pair.1 Replace run.1)
