-- Stores of many pairs in one commit.
use Rattle.std.specs.Prelude.{◌≡◌, ◌⊎◌, ◌≤◌, ℕ, true, false, List, take, map, Result, Ok, Err}
use Rattle.dbm_model.specs.Calls.{Stored, Refused}
use Rattle.dbm_model.specs.Changes.{replacing, with_pairs}
use Rattle.dbm_model.specs.Pairs.{Pair}
use Rattle.dbm_model.specs.States.{Handle, flagged}
use Rattle.dbm_model.specs.Steps.{with_map, Breaks, Run}
use Rattle.page_io.specs.declared.store.PageStore.{Ghosts}
use Rattle.dbm_fault.specs.Faults.{fault_of}
use Rattle.dbm_fault.specs.declared.fault.Fault.{Fault}
use Rattle.dbm_file.specs.Held.{held_by}
use Rattle.dbm_file.specs.Answers.{Survives}
use Rattle.dbm_file.specs.Database.{page_state, IsAt}
use Rattle.dbm_file.specs.declared.database.Database.{Database}

-- These pairs were stored as by calls one after another, and at every moment a stop leaves none of
-- them or all.
pub record IsGroup {S : Type 0} {s : Ghosts S} (old new : Database S s) (before : Handle)
    (pairs : List Pair) : Type 0 where
  pub after : Handle
  pub counts : before.faults ≤ after.faults
  pub run : Run (record before { faults = after.faults }) (map replacing pairs)
      (map (λ _. Stored) pairs) after
  pub is_at : IsAt new after
  pub survives : (page_state old).usable ≡ true
      → Survives old new (λ left. (left ≡ held_by before.state) ⊎ (left ≡ held_by after.state))

-- The device broke the database in the commit of these pairs, which would have been stored as by
-- calls one after another.
pub record IsCommitBroken (before after : Handle) (pairs : List Pair) (fault : Fault) : Type 0 where
  pub breaks : Breaks before (with_map before.state (with_pairs before.state.map pairs))
      (Refused (fault_of fault)) after
  pub stored : Handle
  pub run : Run (record before { faults = stored.faults }) (map replacing pairs)
      (map (λ _. Stored) pairs) stored
  pub counts : stored.faults ≤ after.faults

-- They were refused: nothing has changed, but that a fault of the device in the commit of the first
-- `count` of them breaks the database, and each image then has none of them or those.
pub record IsGroupRefused {S : Type 0} {s : Ghosts S} (old new : Database S s) (before : Handle)
    (pairs : List Pair) (fault : Fault) : Type 0 where
  pub after : Handle
  pub count : ℕ
  pub counts : before.faults ≤ after.faults
  pub ends : (after.state ≡ flagged (fault_of fault) before.state)
      ⊎ IsCommitBroken before after (take count pairs) fault
  pub is_at : IsAt new after
  pub survives : (page_state old).usable ≡ true
      → Survives old new (λ left. (left ≡ held_by before.state)
      ⊎ ((after.state.usable ≡ false)
      × (left ≡ held_by (with_map before.state (with_pairs before.state.map (take count pairs))))))

-- how a store of these pairs ends on a database at this handle: so many of them are stored, or none
abbrev pub GroupEnds : {S : Type 0} {s : Ghosts S} → Database S s → Database S s → Handle
    → List Pair → Result ℕ Fault → Type 0
GroupEnds old new before pairs (Ok stored) = IsGroup old new before (take stored pairs)
GroupEnds old new before pairs (Err fault) = IsGroupRefused old new before pairs fault
