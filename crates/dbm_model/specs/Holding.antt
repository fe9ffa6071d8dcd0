-- What a database may hold: no more pairs than its limit, and only pairs that its version allows.
use Rattle.std.specs.Prelude.{◌≡◌, ◌≤◌, List, ℕ, Some}
use Rattle.std.specs.FinMap.{get, len}
use Rattle.dbm_model.specs.Calls.{Call, Reply}
use Rattle.dbm_model.specs.Pairs.{IsAllowed}
use Rattle.dbm_model.specs.States.{State, Handle}
use Rattle.dbm_model.specs.Steps.{Step}

pub record IsWithin (s : State) : Type 0 where
  pub few : len s.map ≤ s.bounds.limit
  pub allowed : (key content : List ℕ) → get s.map key ≡ Some content
      → IsAllowed s.bounds.version (key, content)

-- no call makes it more, whatever fails
abbrev pub StaysWithin : Type 0
StaysWithin = (before after : Handle) (call : Call) (reply : Reply) → IsWithin before.state
    → Step before call reply after → IsWithin after.state
