-- What happens to a map that several handles share: one period after another, each of one handle.
use Rattle.std.specs.Prelude.{◌≡◌, ℕ, Bool, true, false, List, [], ◌∷◌}
use Rattle.dbm_model.specs.Bounds.{Bounds}
use Rattle.dbm_model.specs.Calls.{Call, Reply, Refused, Device}
use Rattle.dbm_model.specs.Members.{Member, Holding, held}
use Rattle.dbm_model.specs.Pairs.{Contents}
use Rattle.dbm_model.specs.States.{State, Handle}
use Rattle.dbm_model.specs.Steps.{Case, Changes, case_of, Step}
use Rattle.dbm_sharing.specs.Handles.{just_opened, Shared, state_of, file_of, OthersStay, IsHandleAt}

pub data Period : Type 0 where
  -- the handle made this call and was given this reply, which left it usable
  Answered : ℕ → Call → Reply → Period
  -- the device broke the handle within the call, which was refused by Device. Of the change all was
  -- made (true), or nothing (false)
  CutByDevice : ℕ → Call → Bool → Period
  -- the program of the handle died within the call. Of the change all was made, or nothing
  CutByDeath : ℕ → Call → Bool → Period
  -- a handle was opened by this number, for changes or for reading; one that had it is gone
  Opened : ℕ → Bool → Period
  -- another table took the place of this one, with this map and these bounds
  Replaced : Contents → Bounds → Period

-- a step of the model, from the state of the handle before the period to its state after it
pub record IsAnswered (pages : ℕ) (before : Shared) (who : ℕ) (call : Call) (reply : Reply)
    (after : Shared) : Type 0 where
  pub first : Handle
  pub begins : IsHandleAt pages (state_of before who) first
  pub last : Handle
  pub step : Step first call reply last
  pub ends : last.state ≡ state_of after who
  pub others : OthersStay who before after

-- what the file stands for where a call that falls under this rule was cut short: nothing of it was
-- made, or, where the rule is a change, all of it
abbrev pub IsLeft : Bool → State → Case → Member → Type 0
IsLeft false s rule left = left ≡ held s
IsLeft true s (Changes reply next) left = left ≡ held next
IsLeft true s rule left = ⊥

-- The step broke the handle. It opens the file anew, and has its error and its pass.
pub record IsCutByDevice (pages : ℕ) (before : Shared) (who : ℕ) (call : Call) (made : Bool)
    (after : Shared) : Type 0 where
  pub first : Handle
  pub begins : IsHandleAt pages (state_of before who) first
  pub broken : Handle
  pub step : Step first call (Refused Device) broken
  pub breaks : broken.state.usable ≡ false
  pub left : IsLeft made first.state (case_of first call) (held broken.state)
  pub ends : state_of after who ≡ record broken.state { usable = true }
  pub others : OthersStay who before after

-- There was no reply, and the handle is gone: whoever has its number next was just opened.
pub record IsCutByDeath (pages : ℕ) (before : Shared) (who : ℕ) (call : Call) (made : Bool)
    (after : Shared) : Type 0 where
  pub first : Handle
  pub begins : IsHandleAt pages (state_of before who) first
  pub left : IsLeft made first.state (case_of first call) (file_of after)
  pub gone : after.own who ≡ just_opened (before.own who).writable
  pub others : OthersStay who before after

-- a handle was opened, which changes nothing else
pub record IsOpened (before : Shared) (who : ℕ) (writable : Bool) (after : Shared) : Type 0 where
  pub file : file_of after ≡ file_of before
  pub opened : after.own who ≡ just_opened writable
  pub others : OthersStay who before after

-- each handle has what it had, over the new table
pub record IsReplaced (before : Shared) (map : Contents) (bounds : Bounds) (after : Shared)
    : Type 0 where
  pub file : file_of after ≡ Holding map bounds
  pub all_stay : (who : ℕ) → after.own who ≡ before.own who

-- from one shared map, on a device of so many pages, the period may leave the other
abbrev pub PeriodStep : ℕ → Shared → Period → Shared → Type 0
PeriodStep pages before (Answered who call reply) after =
    IsAnswered pages before who call reply after
PeriodStep pages before (CutByDevice who call made) after =
    IsCutByDevice pages before who call made after
PeriodStep pages before (CutByDeath who call made) after =
    IsCutByDeath pages before who call made after
PeriodStep pages before (Opened who writable) after = IsOpened before who writable after
PeriodStep pages before (Replaced map bounds) after = IsReplaced before map bounds after

-- one period after another
abbrev pub Chain : ℕ → Shared → List Period → Shared → Type 0
Chain pages before [] after = after ≡ before
Chain pages before (period ∷ periods) after =
    (mid : Shared) × PeriodStep pages before period mid × Chain pages mid periods after

-- the table stays: no other one takes its place
abbrev pub IsOneTable : List Period → Type 0
IsOneTable [] = Unit {0}
IsOneTable (Replaced map bounds ∷ periods) = ⊥
IsOneTable (period ∷ periods) = IsOneTable periods
