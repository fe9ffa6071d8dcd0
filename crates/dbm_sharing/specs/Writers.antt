-- The periods in which the map may change, as sessions.
use Rattle.std.specs.Prelude.{◌≡◌, ℕ, false, if◌then◌else◌, List, [], ◌∷◌, ◌++◌, Option, None, Some, Contains}
use Rattle.dbm_model.specs.Bounds.{in_v1}
use Rattle.dbm_model.specs.Calls.{Call, Refused, Device, is_changing, is_acknowledged}
use Rattle.dbm_model.specs.Members.{Member, Members}
use Rattle.dbm_model.specs.SessionChanges.{Marked, of_answer, of_cut, changes_of, LeftBy}
use Rattle.dbm_model.specs.Sessions.{Plan, Ending, Rested, StoppedCall, Broke, left_by, Sessions}
use Rattle.dbm_model.specs.States.{Handle}
use Rattle.dbm_model.specs.Steps.{case_of}
use Rattle.dbm_sharing.specs.Handles.{Shared, state_of, file_of, IsHandleAt}
use Rattle.dbm_sharing.specs.Periods.{Period, Answered, CutByDevice, CutByDeath, Opened, Replaced, Chain, IsOneTable}

-- a session that opens what is there and makes this call
abbrev pub of_one_call : Call → Plan
of_one_call call = record {
  how = record { create = false; truncate = false; bounds = in_v1 0 };
  calls = call ∷ [];
  group = [];
}

-- the session of a change that was acknowledged, and of one that was cut short
abbrev pub plan_of : Period → List Plan
plan_of (Answered who call reply) = if is_acknowledged reply then of_one_call call ∷ [] else []
plan_of (CutByDevice who call made) = of_one_call call ∷ []
plan_of (CutByDeath who call made) = if is_changing call then of_one_call call ∷ [] else []
plan_of (Opened who writable) = []
plan_of (Replaced map bounds) = []

-- how it ended: it was closed, a fault of the device broke its handle, or it was stopped within
abbrev pub ending_of : Period → List Ending
ending_of (Answered who call reply) = if is_acknowledged reply then Rested (reply ∷ []) ∷ []
    else []
ending_of (CutByDevice who call made) = Broke (Refused Device ∷ []) ∷ []
ending_of (CutByDeath who call made) = if is_changing call then StoppedCall [] ∷ [] else []
ending_of (Opened who writable) = []
ending_of (Replaced map bounds) = []

abbrev pub plans_of : List Period → List Plan
plans_of [] = []
plans_of (period ∷ periods) = plan_of period ++ plans_of periods

abbrev pub endings_of : List Period → List Ending
endings_of [] = []
endings_of (period ∷ periods) = ending_of period ++ endings_of periods

-- The writers' periods of a chain are a list of sessions, from any members with what the file
-- stands for at the start, and what it stands for at the end is among those that they leave. A
-- chain may end with a call that was cut short, so this is said of every moment.
abbrev pub WritersAreSessions : Type 0
WritersAreSessions = (pages : ℕ) (members : Members) (before after : Shared)
    (periods : List Period) → Chain pages before periods after → IsOneTable periods
    → Contains members (file_of before) →
    (left : Members) × Sessions pages members (plans_of periods) (endings_of periods) left
    × Contains left (file_of after)

-- the changes that a period made, or that are in doubt by it
abbrev pub marks_in : Period → List Marked
marks_in (Answered who call reply) = of_answer call reply
marks_in (CutByDevice who call made) = of_cut call
marks_in (CutByDeath who call made) = of_cut call
marks_in (Opened who writable) = []
marks_in (Replaced map bounds) = []

abbrev pub marks_of : List Period → List Marked
marks_of [] = []
marks_of (period ∷ periods) = marks_in period ++ marks_of periods

-- They are the changes of those sessions.
abbrev pub MarksAreOfSessions : Type 0
MarksAreOfSessions = (periods : List Period)
    → changes_of (plans_of periods) (endings_of periods) ≡ marks_of periods

-- What a chain leaves at any moment is left by these changes in order, every acknowledged one among
-- them. Each call that was cut short leaves one in doubt.
abbrev pub SharedChangesStay : Type 0
SharedChangesStay = (pages : ℕ) (before after : Shared) (periods : List Period)
    → Chain pages before periods after → IsOneTable periods
    → LeftBy (marks_of periods) (file_of before) (file_of after)

-- what a power cut may leave, with this call of this handle under way, or cut short with no other
-- call behind it, or with none
abbrev pub MayBeLeft : ℕ → Shared → Option (ℕ × Call) → Member → Type 0
MayBeLeft pages s None left = left ≡ file_of s
MayBeLeft pages s (Some under_way) left =
    (h : Handle) × IsHandleAt pages (state_of s under_way.0) h
    × Contains (left_by h.state (case_of h under_way.1)) left

-- what is in doubt by the call under way
abbrev pub marks_under_way : Option (ℕ × Call) → List Marked
marks_under_way None = []
marks_under_way (Some under_way) = of_cut under_way.1

-- A power cut at any moment leaves what these changes leave in order, with the one under way
-- beside.
abbrev pub PowerCutsLeave : Type 0
PowerCutsLeave = (pages : ℕ) (before after : Shared) (periods : List Period)
    (under_way : Option (ℕ × Call)) (left : Member) → Chain pages before periods after
    → IsOneTable periods → MayBeLeft pages after under_way left
    → LeftBy (marks_of periods ++ marks_under_way under_way) (file_of before) left
