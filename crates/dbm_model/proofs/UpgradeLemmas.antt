-- Upgrades.
use Rattle.std.proofs.Common.{◌≡◌, ◌⊎◌, inl, inr, ⊎_elim, ℕ, ◌*◌, ◌<◌, ◌≤◌, Bool, true, false, cond, refl, sym, ◌∙◌, ap, subst, arith}
use Rattle.std.specs.Prelude.{nat_lt}
use Rattle.std.specs.FinMap.{empty}
use Rattle.std.proofs.lemmas.Bool.{lt-ltb}
use Rattle.dbm_model.specs.Bounds.{Bounds, Version, V1, V2, upgraded, in_v2}
use Rattle.dbm_model.specs.Calls.{Upgrade, Reply, Upgraded, Refused, Memory, Broken, NoRoom, TooSmall}
use Rattle.dbm_model.specs.Sizes.{home}
use Rattle.dbm_model.specs.States.{State, Handle, fresh, flagged}
use Rattle.dbm_model.specs.Steps.{Refuses, Changes, raised, Step}
use Rattle.dbm_model.specs.Refusals.{MayChange}
use Rattle.dbm_model.specs.Room.{HasRoom}
use Rattle.dbm_model.specs.Upgrades.{SecondIsTold, SmallIsRefused, UpgradeKeeps, UpgradeRaises, UpgradeIsNeverShort, UpgradeExamples, start}
use Rattle.dbm_model.proofs.CaseLemmas.{map_of_usable, bounds_of_usable, breaks_by_change}
use Rattle.dbm_model.proofs.PassSteps.{spared}
use Rattle.dbm_model.proofs.RefusalLemmas.{refuses_where_due}
use Rattle.dbm_model.proofs.RuleLemmas.{ByCase, falls, if_broken, upgrade_falls}
use Rattle.dbm_model.proofs.RoomLemmas.{raised_home}
use Rattle.dbm_model.proofs.StayLemmas.{settings_stay, bounds_are_due}

-- an upgrade on a handle for changes falls under this rule
by_version : (before after : Handle) (reply : Reply) (version : Version) → MayChange before.state
    → before.state.bounds.version ≡ version → Step before Upgrade reply after
    → ByCase before Upgrade (raised before.capacity before.state version) reply after
by_version before after reply version may is step =
    falls before after Upgrade reply (raised before.capacity before.state version)
    (upgrade_falls before true may.usable may.writable
    ∙ ap (raised before.capacity before.state) is) step

pub second_is_told : SecondIsTold
second_is_told before after reply step may second =
    ⊎_elim (λ is. is) (λ bad. absurd bad) (by_version before after reply V2 may second step)

-- the rule of version 1, by the room
by_room : (before after : Handle) (reply : Reply) (small : Bool) → MayChange before.state
    → before.state.bounds.version ≡ V1
    → nat_lt before.capacity (2 * home (upgraded before.state.bounds)) ≡ small
    → Step before Upgrade reply after
    → ByCase before Upgrade (cond small (Refuses TooSmall)
    (Changes Upgraded (record before.state { bounds = upgraded before.state.bounds }))) reply after
by_room before after reply small may first is step =
    subst (λ (b : Bool). ByCase before Upgrade (cond b (Refuses TooSmall)
    (Changes Upgraded (record before.state { bounds = upgraded before.state.bounds }))) reply after)
    is (by_version before after reply V1 may first step)

pub small_is_refused : SmallIsRefused
small_is_refused before after reply step may first small =
    ⊎_elim
    (λ is. (
      is.0,
      ap (λ (t : State). t.map) is.1,
      ap (λ (t : State). t.bounds) is.1,
      ap (λ (t : State). t.error) is.1,
    ))
    (λ bad. absurd bad)
    (by_room before after reply true may first
    (lt-ltb before.capacity (2 * home (upgraded before.state.bounds)) small) step)

-- one on a broken handle changes nothing
when_broken : (before after : Handle) (reply : Reply) → Step before Upgrade reply after
    → before.state.usable ≡ false
    → (reply ≡ Refused Broken) × (after.state ≡ flagged Broken before.state)
when_broken before after reply step broken =
    ⊎_elim (λ is. is) (λ bad. absurd bad)
    (falls before after Upgrade reply (Refuses Broken) (if_broken before Upgrade broken) step)

map_stays : (before after : Handle) (reply : Reply) → Step before Upgrade reply after
    → after.state.map ≡ before.state.map
map_stays before after reply step = by_marks before.state.usable after.state.usable refl refl
  where
    by_marks : (was now : Bool) → before.state.usable ≡ was → after.state.usable ≡ now
        → after.state.map ≡ before.state.map
    by_marks false now was_is now_is =
        ap (λ (t : State). t.map) (when_broken before after reply step was_is).1
    by_marks true true was_is now_is = map_of_usable before after Upgrade reply step now_is
    by_marks true false was_is now_is =
        ⊎_elim (λ old. old.0) (λ asked. asked.0)
        (breaks_by_change before after Upgrade reply step was_is now_is).2

pub upgrade_keeps : UpgradeKeeps
upgrade_keeps before after reply step = (
  map_stays before after reply step,
  (settings_stay before after Upgrade reply step).0,
  spared before after Upgrade reply step (λ of_pass. of_pass),
)

pub upgrade_raises : UpgradeRaises
upgrade_raises before after step = by_marks before.state.usable after.state.usable refl refl
  where
    with_room : after.state.bounds ≡ upgraded before.state.bounds
        → (before.state.bounds.version ≡ V2) ⊎ HasRoom after
    with_room is =
        ⊎_elim
        (λ same. inl (ap (λ (b : Bounds). b.version) (sym same ∙ is)))
        (λ up. inr (subst (λ (n : ℕ). 2 * home after.state.bounds ≤ n) (sym step.capacity)
        (subst (λ (b : Bounds). 2 * home b ≤ before.capacity) (sym up.raised) up.room)))
        (bounds_are_due before after Upgrade Upgraded step)

    by_marks : (was now : Bool) → before.state.usable ≡ was → after.state.usable ≡ now
        → (after.state.bounds ≡ upgraded before.state.bounds)
        × ((before.state.bounds.version ≡ V2) ⊎ HasRoom after)
    by_marks false now was_is now_is =
        absurd (let told = (when_broken before after Upgraded step was_is).0 in cc)
    by_marks true false was_is now_is =
        absurd (let told = (breaks_by_change before after Upgrade Upgraded step was_is now_is).1 in cc)
    by_marks true true was_is now_is =
        let is = bounds_of_usable before after Upgrade Upgraded step now_is in (is, with_room is)

pub never_short : UpgradeIsNeverShort
never_short before after reply step = (
  λ is. absurd (let due = (refuses_where_due before after Upgrade Memory
      (subst (λ (r : Reply). Step before Upgrade r after) is step)).2 in due),
  λ is. let due = refuses_where_due before after Upgrade NoRoom
      (subst (λ (r : Reply). Step before Upgrade r after) is step) in
      no_want is due.0 due.2.0,
)
  where
    no_want : reply ≡ Refused NoRoom → MayChange before.state
        → before.capacity < 2 * home before.state.bounds → ⊥
    no_want is may short = by_file before.state.bounds.version refl
      where
        by_file : (version : Version) → before.state.bounds.version ≡ version → ⊥
        by_file V2 second =
            absurd (let told = (second_is_told before after reply step may second).0 in cc)
        by_file V1 first =
            let small : before.capacity < 2 * home (upgraded before.state.bounds) =
            (let more = raised_home before.state.bounds in omega arith) in
            absurd (let told = (small_is_refused before after reply step may first small).0 in cc)

pub upgrade_examples : UpgradeExamples
upgrade_examples = record {
  small = record {
    after = record (start 232) { state = flagged TooSmall (start 232).state };
    step = record {
      counts = omega arith;
      capacity = refl;
      pages = (omega arith, omega arith);
      bounded = inl refl;
      buckets = refl;
      answers = inl (refl, refl);
    };
  };
  small_alone = λ done. absurd (let told = (small_is_refused (start 6831) done.after Upgraded
      done.step (record { usable = refl; writable = refl }) refl (omega arith)).0 in cc);
  done = record {
    after = record (start 6832) { state = fresh empty (in_v2 100) true };
    step = record {
      counts = omega arith;
      capacity = refl;
      pages = (omega arith, omega arith);
      bounded = inl refl;
      buckets = refl;
      answers = inl (refl, refl);
    };
  };
}
