-- What a session leaves of what the file may stand for, and so a list of them.
use Rattle.std.specs.Prelude.{◌≡◌, ◌≢◌, ◌⊎◌, ◌≤◌, ◌*◌, ℕ, true, false, List, [], ◌∷◌, ◌++◌, take, map, Contains}
use Rattle.std.specs.FinMap.{len}
use Rattle.dbm_model.specs.Holding.{IsWithin}
use Rattle.dbm_model.specs.Calls.{Call, Reply, Stored, Refused, Fault, Device, NoRoom}
use Rattle.dbm_model.specs.Changes.{replacing}
use Rattle.dbm_model.specs.FaultCount.{MoreFaults}
use Rattle.dbm_model.specs.Pairs.{Pair}
use Rattle.dbm_model.specs.Sizes.{home}
use Rattle.dbm_model.specs.States.{State, Handle, fresh}
use Rattle.dbm_model.specs.Steps.{Case, Changes, case_of, Step, Run}
use Rattle.dbm_model.specs.Members.{Member, Members, AllHaveRoom, held, Opening, opened}

-- the device that a session is on: how many pages it has, and how often it had failed when the
-- session began and when it ended
pub record Disk : Type 0 where
  pub pages : ℕ
  pub at_start : ℕ
  pub at_end : ℕ

-- what a session is to do
pub record Plan : Type 0 where
  pub how : Opening
  pub calls : List Call
  -- and then the pairs that it stores in one commit
  pub group : List Pair

-- how it ended
pub data Ending : Type 0 where
  -- its opening was refused by the fault, or stopped
  NotOpened : Fault → Ending
  StoppedOpening : Ending
  -- it was opened, its first calls were given these replies, and it was closed or stopped with no
  -- call under way
  Rested : List Reply → Ending
  -- and it was stopped within the next call
  StoppedCall : List Reply → Ending
  -- and one of these calls broke the handle
  Broke : List Reply → Ending
  -- all of its calls were given these replies, so many pairs of its group, from the first one on,
  -- were then stored in one commit, and it was closed or stopped with nothing under way
  Grouped : List Reply → ℕ → Ending
  -- and it was stopped within the commit of so many pairs
  StoppedGroup : List Reply → ℕ → Ending
  -- and the device broke the handle in that commit
  BrokeGroup : List Reply → ℕ → Ending

-- the handle of a database that was opened on that device
pub record IsOn (disk : Disk) (first : Handle) : Type 0 where
  pub capacity : first.capacity ≡ disk.pages
  pub counts : disk.at_start ≤ first.faults
  pub limited : (1 ≤ first.state.bounds.limit) × (first.state.bounds.limit ≤ 1000000)
  pub within : IsWithin first.state
  pub light : len first.state.map ≤ 8 * first.buckets
  pub few_pages : first.pages ≤ home first.state.bounds

-- an opening has answered this handle: at what it makes of a member
pub record Begins (disk : Disk) (before : Members) (how : Opening) (first : Handle) : Type 0 where
  pub member : Member
  pub among : Contains before member
  pub begins : opened how member ≡ held first.state
  pub is_fresh : first.state ≡ fresh first.state.map first.state.bounds true
  pub is_on : IsOn disk first

-- an opening was refused: by a fault of the device, and then it may have made of the file what it
-- was to make; or by another one, for want of room only where some member lacks it, and then it has
-- changed nothing
abbrev pub IsRefused : Disk → Members → Opening → Fault → Members → Type 0
IsRefused disk before how fault after =
    ((fault ≡ Device) × MoreFaults disk.at_start disk.at_end
    × (after ≡ before ++ map (opened how) before))
    ⊎ ((fault ≢ Device) × (AllHaveRoom disk.pages before → fault ≢ NoRoom) × (after ≡ before))

-- the first of the calls, given these replies, left the handle usable, and the device had not failed
-- more often at the end than so
pub record Goes (most : ℕ) (first : Handle) (calls : List Call) (replies : List Reply)
    : Type 0 where
  pub made : List Call
  pub later : List Call
  pub calls_are : calls ≡ made ++ later
  pub last : Handle
  pub run : Run first made replies last
  pub usable : last.state.usable ≡ true
  pub counts : last.faults ≤ most

-- closed, or stopped with no call under way: the map is left
pub record Rests (most : ℕ) (first : Handle) (calls : List Call) (replies : List Reply)
    (after : Members) : Type 0 where
  pub goes : Goes most first calls replies
  pub left : after ≡ held goes.last.state ∷ []

-- what is left where a call that falls under this rule was cut short: the map, and where the rule
-- is a change also the one that it changes to
abbrev pub left_by : State → Case → Members
left_by s (Changes reply next) = held s ∷ held next ∷ []
left_by s rule = held s ∷ []

-- the call after those was cut short
pub record CutShort (most : ℕ) (first : Handle) (calls : List Call) (replies : List Reply)
    (after : Members) : Type 0 where
  pub goes : Goes most first calls replies
  pub call : Call
  pub rest : List Call
  pub next : goes.later ≡ call ∷ rest
  pub left : after ≡ left_by goes.last.state (case_of goes.last call)

-- one of the calls was cut short by a fault of the device, which broke the handle; what was called
-- then changed nothing
pub record Breaks (most : ℕ) (first : Handle) (calls : List Call) (replies : List Reply)
    (after : Members) : Type 0 where
  pub answered : List Reply
  pub refused : List Reply
  pub replies_are : replies ≡ answered ++ Refused Device ∷ refused
  pub cut : CutShort most first calls answered after
  pub broken : Handle
  pub step : Step cut.goes.last cut.call (Refused Device) broken
  pub breaks : broken.state.usable ≡ false
  pub then_made : List Call
  pub never_made : List Call
  pub rest_is : cut.rest ≡ then_made ++ never_made
  pub last : Handle
  pub run : Run broken then_made refused last
  pub counts : last.faults ≤ most

-- all of the calls were made, and then these pairs were stored, as by calls one after another; the
-- device may have failed meanwhile
pub record Groups (most : ℕ) (first : Handle) (calls : List Call) (replies : List Reply)
    (stored : List Pair) (after : Members) : Type 0 where
  pub goes : Goes most first calls replies
  pub all : goes.later ≡ []
  pub last : Handle
  pub run : Run (record goes.last { faults = last.faults }) (map replacing stored)
      (map (λ _. Stored) stored) last
  pub counts : last.faults ≤ most
  pub left : after ≡ held last.state ∷ []

-- all of the calls were made, and then the commit of these pairs was cut short, which would have been
-- stored as by calls one after another: none of them is left, or all
pub record GroupCutShort (most : ℕ) (first : Handle) (calls : List Call) (replies : List Reply)
    (asked : List Pair) (after : Members) : Type 0 where
  pub goes : Goes most first calls replies
  pub all : goes.later ≡ []
  pub stored : Handle
  pub run : Run (record goes.last { faults = stored.faults }) (map replacing asked)
      (map (λ _. Stored) asked) stored
  pub counts : stored.faults ≤ most
  pub left : after ≡ held goes.last.state ∷ held stored.state ∷ []

-- A session on a device, from what the file may stand for at its start to what it may stand for at
-- its end. An opening that a stop or a fault of the device cut short leaves what there was, or what
-- it makes of that. One that answered begins with one member alone, and its calls are steps of the
-- model, as are the stores of a group that was committed.
abbrev pub SessionStep : Disk → Members → Plan → Ending → Members → Type 0
SessionStep disk before plan (NotOpened fault) after = IsRefused disk before plan.how fault after
SessionStep disk before plan StoppedOpening after = after ≡ before ++ map (opened plan.how) before
SessionStep disk before plan (Rested replies) after =
    (first : Handle) × Begins disk before plan.how first
    × Rests disk.at_end first plan.calls replies after
SessionStep disk before plan (StoppedCall replies) after =
    (first : Handle) × Begins disk before plan.how first
    × CutShort disk.at_end first plan.calls replies after
SessionStep disk before plan (Broke replies) after =
    (first : Handle) × Begins disk before plan.how first
    × Breaks disk.at_end first plan.calls replies after
SessionStep disk before plan (Grouped replies count) after =
    (first : Handle) × Begins disk before plan.how first
    × Groups disk.at_end first plan.calls replies (take count plan.group) after
SessionStep disk before plan (StoppedGroup replies count) after =
    (first : Handle) × Begins disk before plan.how first
    × GroupCutShort disk.at_end first plan.calls replies (take count plan.group) after
SessionStep disk before plan (BrokeGroup replies count) after =
    (first : Handle) × Begins disk before plan.how first
    × GroupCutShort disk.at_end first plan.calls replies (take count plan.group) after
    × MoreFaults disk.at_start disk.at_end

-- one session after another on devices of so many pages, each with its ending
abbrev pub Sessions : ℕ → Members → List Plan → List Ending → Members → Type 0
Sessions pages before [] [] after = after ≡ before
Sessions pages before (plan ∷ plans) (ending ∷ endings) after =
    (disk : Disk) × (disk.pages ≡ pages) × (mid : Members)
    × SessionStep disk before plan ending mid × Sessions pages mid plans endings after
Sessions pages before [] (ending ∷ endings) after = ⊥
Sessions pages before (plan ∷ plans) [] after = ⊥
