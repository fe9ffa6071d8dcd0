-- What sessions leave that are made one after another, each with its ending.
use Rattle.std.specs.Prelude.{◌≡◌, ◌≢◌, ◌⊎◌, ◌+◌, ◌||◌, ℕ, true, false, All, List, [], ◌∷◌, map, Contains, IsOk, sum_by}
use Rattle.sect_dev.specs.Device.{Image, Candidates, IsImageOf}
use Rattle.redo_area.specs.File.{settled}
use Rattle.dbm_model.specs.Sizes.{is_limit}
use Rattle.dbm_fault.specs.declared.fault.Fault.TheVariants.{Memory, Device}
use Rattle.dbm_file.specs.Calls.{reply_of}
use Rattle.dbm_model.specs.Members.{Member, NoDatabase, Members}
use Rattle.dbm_model.specs.Sessions as model
use Rattle.dbm_model.specs.Sessions.{Disk, Plan, Sessions}
use Rattle.dbm_model.specs.SessionChanges.{changes_of, has_device, LeftBy}
use Rattle.dbm_model.specs.SessionRoom.{IsNeverShort}
use Rattle.rehearsal.specs.Members.{StandsFor, AllStandFor}
use Rattle.rehearsal.specs.Sessions.{plan_of, ending_of, IfNotOpened, Leaves}
use Rattle.rehearsal.specs.declared.sessions.Ending.{Ending}
use Rattle.rehearsal.specs.declared.sessions.Ending.TheVariants.{NotOpened, NoMemory, Rested, Unsettled, Broke, BrokeGroup}
use Rattle.rehearsal.specs.declared.cutting.Stopped.{Stopped}
use Rattle.rehearsal.specs.declared.rehearsing.Stage.{Stage}

-- what a session is to do
abbrev pub planned : Stage → Plan
planned stage = plan_of stage.how stage.calls.items stage.group.items

-- how each session ended
abbrev pub endings_in : List Stopped → List Ending
endings_in = map (λ stopped. stopped.ending)

-- a session may end so on a device of so many pages
abbrev pub SessionLeaves : Members → Plan → Ending → ℕ → Candidates → Type 0
SessionLeaves before plan ending pages candidate =
    (disk : Disk) × (disk.pages ≡ pages)
    × (count : ℕ) × Leaves disk before plan (ending_of ending count) pages candidate

-- endings of the definitions, each as one of the code is told
abbrev pub AreTold : List Ending → List model.Ending → Type 0
AreTold [] [] = Unit {0}
AreTold (ending ∷ endings) (told ∷ others) =
    ((count : ℕ) × (told ≡ ending_of ending count)) × AreTold endings others
AreTold [] (told ∷ others) = ⊥
AreTold (ending ∷ endings) [] = ⊥

-- The sessions may end so, one after another, and each image of the device that may then be left
-- stands for a member of what they leave.
pub record SessionsLeave (before : Members) (plans : List Plan) (endings : List Ending) (pages : ℕ)
    (candidate : Candidates) : Type 0 where
  pub told : List model.Ending
  pub are_told : AreTold endings told
  pub after : Members
  pub sessions : Sessions pages before plans told after
  pub stand : AllStandFor after pages candidate

-- an image stands for what is left of one of the members by the changes of the sessions, with every
-- acknowledged one among them
pub record IsLeft (before : Members) (plans : List Plan) (told : List model.Ending) (pages : ℕ)
    (image : Image) : Type 0 where
  pub member : Member
  pub stands : StandsFor (settled pages image) member
  pub start : Member
  pub among : Contains before start
  pub left : LeftBy (changes_of plans told) start member

-- so does each
abbrev pub AreAllLeft : Members → List Plan → List Ending → ℕ → Candidates → Type 0
AreAllLeft before plans endings pages candidate =
    (told : List model.Ending) × AreTold endings told
    × ((image : Image) → IsImageOf candidate image → IsLeft before plans told pages image)

-- how many writes and syncs sessions ask a device for at most that are stopped after so many of its
-- calls, where the stop itself counts as one
abbrev pub most_changes : List Stage → ℕ
most_changes stages = sum_by (λ stage. stage.device_calls + 1) stages

-- nothing was refused for want of room in any of the sessions
abbrev pub AreNeverShort : List Ending → Type 0
AreNeverShort endings = All (λ ending. (count : ℕ) → IsNeverShort (ending_of ending count)) endings

-- ---- what stops a session, and what doesn't

-- it was not opened for nothing but a fault of the device, or for want of memory where the database
-- was to be emptied
abbrev pub IsOpenedBut : Plan → Ending → Type 0
IsOpenedBut plan ending = IfNotOpened ending
    (λ fault. (fault ≡ Device) ⊎ ((fault ≡ Memory) × (plan.how.truncate ≡ true)))

-- the same of each
abbrev pub AreOpenedBut : List Plan → List Ending → Type 0
AreOpenedBut [] [] = Unit {0}
AreOpenedBut (plan ∷ plans) (ending ∷ endings) =
    IsOpenedBut plan ending × AreOpenedBut plans endings
AreOpenedBut [] (ending ∷ endings) = ⊥
AreOpenedBut (plan ∷ plans) [] = ⊥

-- where a database may be made or emptied, the limit that is asked for is one
abbrev pub AsksForALimit : Plan → Type 0
AsksForALimit plan =
    (plan.how.create || plan.how.truncate) ≡ true → is_limit plan.how.bounds.limit ≡ true

-- there is a database at the start, or each session makes one where there is none
abbrev pub FindOrMake : Members → List Plan → Type 0
FindOrMake before plans =
    (Contains before NoDatabase → ⊥) ⊎ All (λ plan. plan.how.create ≡ true) plans

-- neither the opening, nor a call, nor the group, nor the closing was refused by the device
abbrev pub IsNeverFailed : Ending → Type 0
IsNeverFailed (NotOpened fault) = fault ≢ Device
IsNeverFailed NoMemory = Unit {0}
IsNeverFailed (Rested replies stored) =
    (has_device (map reply_of replies.items) ≡ false) × IsOk stored
IsNeverFailed (Unsettled replies stored) = ⊥
IsNeverFailed (Broke replies) = ⊥
IsNeverFailed (BrokeGroup replies) = ⊥

-- unless it was cut short
abbrev pub IsSpared : Stopped → Type 0
IsSpared stopped = stopped.is_cut ≡ false → IsNeverFailed stopped.ending

-- where it was cut short, the device had answered so many calls
abbrev pub IsCutAfter : ℕ → Stopped → Type 0
IsCutAfter device_calls stopped = stopped.is_cut ≡ true → stopped.device_calls ≡ device_calls

-- the same of each
abbrev pub AreCutAsAsked : List Stage → List Stopped → Type 0
AreCutAsAsked [] [] = Unit {0}
AreCutAsAsked (stage ∷ stages) (stopped ∷ others) =
    IsCutAfter stage.device_calls stopped × AreCutAsAsked stages others
AreCutAsAsked [] (stopped ∷ others) = ⊥
AreCutAsAsked (stage ∷ stages) [] = ⊥
