-- A handle that opens the file anew between two of its calls.
use Rattle.std.specs.Prelude.{◌≡◌, ℕ, Bool, true, false, Option, None, Some}
use Rattle.dbm_model.specs.Calls.{Call, Reply, Refused, Fault, Device}
use Rattle.dbm_model.specs.Members.{Member, held}
use Rattle.dbm_model.specs.States.{State, Pass, Handle}
use Rattle.dbm_model.specs.Steps.{case_of, Step}
use Rattle.dbm_sharing.specs.Handles.{IsHandleAt}
use Rattle.dbm_sharing.specs.Periods.{IsLeft}
use Rattle.dbm_sharing.specs.Views.{is_about_error}

-- It takes over the error and the pass of the one before it.
abbrev pub HandlesResume : Type 0
HandlesResume = (pages : ℕ) (s : State) (h : Handle) (error : Option Fault) (pass : Pass)
    → IsHandleAt pages s h → IsHandleAt pages (record s { error = error; pass = pass })
    (record h { state = record h.state { error = error; pass = pass } })

abbrev pub with_error : Option Fault → Handle → Handle
with_error error h = record h { state = record h.state { error = error } }

-- the first of an error that is kept beside a handle and one of the handle
abbrev pub kept_error : Option Fault → Option Fault → Option Fault
kept_error None own = own
kept_error (Some earlier) own = Some earlier

-- Its error may be kept beside it: a step of a handle with no error is one with the error that is
-- kept, which a fault changes only where there is none.
abbrev pub ErrorsAreKeptBeside : Type 0
ErrorsAreKeptBeside = (before after : Handle) (call : Call) (reply : Reply) (error : Option Fault)
    → is_about_error call ≡ false → before.state.error ≡ None → Step before call reply after
    → Step (with_error error before) call reply
    (with_error (kept_error error after.state.error) after)

-- A step that broke a handle may have left either: what the next opening finds, where it is one of
-- the two.
abbrev pub BreaksLeaveEither : Type 0
BreaksLeaveEither = (before broken : Handle) (call : Call) (made : Bool) (left : Member)
    → before.state.usable ≡ true → Step before call (Refused Device) broken
    → broken.state.usable ≡ false → IsLeft made before.state (case_of before call) left →
    (other : Handle) × Step before call (Refused Device) other × (held other.state ≡ left)
    × (other.state
    ≡ record broken.state { map = other.state.map; bounds = other.state.bounds })
