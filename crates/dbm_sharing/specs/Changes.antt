-- A change that one handle made, as each other handle has it.
use Rattle.std.specs.Prelude.{◌≡◌, true, Option}
use Rattle.dbm_model.specs.Calls.{Call, Store, Delete, Upgrade, Reply, Fault, is_acknowledged}
use Rattle.dbm_model.specs.States.{State, Pass, Handle}
use Rattle.dbm_model.specs.Steps.{Step}

-- as another handle has it, whose error and pass these are
abbrev pub seen_by : Option Fault → Pass → State → State
seen_by error pass s = record s { error = error; pass = pass }

abbrev pub handle_of : Option Fault → Pass → Handle → Handle
handle_of error pass h = record h { state = seen_by error pass h.state }

abbrev pub IsChange : Call → Type 0
IsChange (Store key content mode) = Unit {0}
IsChange (Delete key) = Unit {0}
IsChange Upgrade = Unit {0}
IsChange _ = ⊥

-- A change that one handle made and that was acknowledged is the same step of each other handle
-- that is open for changes, whose error and pass stay.
abbrev pub ChangesAreShared : Type 0
ChangesAreShared = (error : Option Fault) (pass : Pass) (before after : Handle) (call : Call)
    (reply : Reply) → IsChange call → is_acknowledged reply ≡ true → Step before call reply after
    → Step (handle_of error pass before) call reply (handle_of error pass after)
