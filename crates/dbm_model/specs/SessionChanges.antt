-- The changes that sessions ask for, told from their plans and endings, and what is left by them.
use Rattle.std.specs.Prelude.{◌≡◌, ◌≢◌, ◌⊎◌, ℕ, Bool, true, false, ◌&&◌, ◌||◌, not, if◌then◌else◌, List, [], ◌∷◌, ◌++◌, take, drop, map, Contains}
use Rattle.std.specs.FinMap.{insert, remove}
use Rattle.dbm_model.specs.Bounds.{upgraded}
use Rattle.dbm_model.specs.Calls.{Call, Store, Delete, Upgrade, Reply, Stored, Deleted, Upgraded, Refused, Fault, Device}
use Rattle.dbm_model.specs.Changes.{with_pairs}
use Rattle.dbm_model.specs.FaultCount.{MoreFaults}
use Rattle.dbm_model.specs.Pairs.{Key, Pair}
use Rattle.dbm_model.specs.Members.{Member, NoDatabase, Holding, Members, Opening, opened}
use Rattle.dbm_model.specs.Sessions.{Disk, Plan, Ending, NotOpened, StoppedOpening, Rested, StoppedCall, Broke, Grouped, StoppedGroup, BrokeGroup, SessionStep, Sessions}

-- a change, as a plain operation on the map
pub data Change : Type 0 where
  Puts : Key → List ℕ → Change
  Removes : Key → Change
  -- pairs stored in one commit
  PutsAll : List Pair → Change
  -- to version 2
  Raises : Change
  -- an opening that creates or empties
  Opens : Opening → Change

abbrev pub applied : Change → Member → Member
applied (Opens how) member = opened how member
applied (Puts key content) (Holding map bounds) = Holding (insert map key content) bounds
applied (Removes key) (Holding map bounds) = Holding (remove map key) bounds
applied (PutsAll pairs) (Holding map bounds) = Holding (with_pairs map pairs) bounds
applied Raises (Holding map bounds) = Holding map (upgraded bounds)
applied Raises NoDatabase = NoDatabase
applied (Puts key content) NoDatabase = NoDatabase
applied (Removes key) NoDatabase = NoDatabase
applied (PutsAll pairs) NoDatabase = NoDatabase

pub data Marked : Type 0 where
  -- it was answered by Stored, Deleted or a handle, or as a group that was stored
  Acknowledged : Change → Marked
  -- a stop or a fault of the device cut it short
  InDoubt : Change → Marked

-- ---- the changes of a session

abbrev pub of_opening : (Change → Marked) → Opening → List Marked
of_opening mark how = if how.create || how.truncate then mark (Opens how) ∷ [] else []

-- of one that was refused by the fault
abbrev pub of_refused : Fault → Opening → List Marked
of_refused Device how = of_opening InDoubt how
of_refused fault how = []

abbrev pub of_answer : Call → Reply → List Marked
of_answer (Store key content mode) Stored = Acknowledged (Puts key content) ∷ []
of_answer (Delete key) Deleted = Acknowledged (Removes key) ∷ []
of_answer Upgrade Upgraded = Acknowledged Raises ∷ []
of_answer call reply = []

abbrev pub of_cut : Call → List Marked
of_cut (Store key content mode) = InDoubt (Puts key content) ∷ []
of_cut (Delete key) = InDoubt (Removes key) ∷ []
of_cut Upgrade = InDoubt Raises ∷ []
of_cut call = []

-- of the calls that were answered
abbrev pub of_calls : List Call → List Reply → List Marked
of_calls (call ∷ calls) (reply ∷ replies) = of_answer call reply ++ of_calls calls replies
of_calls calls replies = []

-- of those, and of the next one, which was stopped
abbrev pub of_stopped : List Call → List Reply → List Marked
of_stopped (call ∷ calls) (reply ∷ replies) = of_answer call reply ++ of_stopped calls replies
of_stopped (call ∷ calls) [] = of_cut call
of_stopped [] replies = []

abbrev pub is_device : Reply → Bool
is_device (Refused Device) = true
is_device reply = false

abbrev pub has_device : List Reply → Bool
has_device [] = false
has_device (reply ∷ replies) = is_device reply || has_device replies

-- of the calls of a handle that broke: the last one that was refused by Device broke it
abbrev pub of_broken : List Call → List Reply → List Marked
of_broken (call ∷ calls) (reply ∷ replies) =
    if is_device reply && not (has_device replies) then of_cut call
    else of_answer call reply ++ of_broken calls replies
of_broken calls replies = []

-- of the opening and the calls, and then of so many pairs of the group, in one commit
abbrev pub of_group : (Change → Marked) → Plan → List Reply → ℕ → List Marked
of_group mark plan replies count = of_opening Acknowledged plan.how
    ++ (of_calls plan.calls replies ++ mark (PutsAll (take count plan.group)) ∷ [])

abbrev pub changes_in : Plan → Ending → List Marked
changes_in plan (NotOpened fault) = of_refused fault plan.how
changes_in plan StoppedOpening = of_opening InDoubt plan.how
changes_in plan (Rested replies) =
    of_opening Acknowledged plan.how ++ of_calls plan.calls replies
changes_in plan (StoppedCall replies) =
    of_opening Acknowledged plan.how ++ of_stopped plan.calls replies
changes_in plan (Broke replies) =
    of_opening Acknowledged plan.how ++ of_broken plan.calls replies
changes_in plan (Grouped replies count) = of_group Acknowledged plan replies count
changes_in plan (StoppedGroup replies count) = of_group InDoubt plan replies count
changes_in plan (BrokeGroup replies count) = of_group InDoubt plan replies count

abbrev pub changes_of : List Plan → List Ending → List Marked
changes_of (plan ∷ plans) (ending ∷ endings) = changes_in plan ending ++ changes_of plans endings
changes_of plans endings = []

-- ---- what they leave

-- the changes in order, each that was acknowledged made, and each in doubt made or not
abbrev pub LeftBy : List Marked → Member → Member → Type 0
LeftBy [] before after = after ≡ before
LeftBy (Acknowledged change ∷ changes) before after = LeftBy changes (applied change before) after
LeftBy (InDoubt change ∷ changes) before after =
    LeftBy changes (applied change before) after ⊎ LeftBy changes before after

-- After any list of sessions, each stopped anywhere, whatever the file may stand for is left by
-- their changes, with every acknowledged one among those that were made.
abbrev pub AcknowledgedChangesStay : Type 0
AcknowledgedChangesStay = (pages : ℕ) (before after : Members) (plans : List Plan)
    (endings : List Ending) → Sessions pages before plans endings after → (member : Member) → Contains after member
    → (start : Member) × Contains before start × LeftBy (changes_of plans endings) start member

-- none is in doubt but the last one
abbrev pub OnlyLastInDoubt : List Marked → Type 0
OnlyLastInDoubt [] = Unit {0}
OnlyLastInDoubt (Acknowledged change ∷ changes) = OnlyLastInDoubt changes
OnlyLastInDoubt (InDoubt change ∷ changes) = changes ≡ []

-- a session leaves one change in doubt at most, its last
abbrev pub OneInDoubt : Type 0
OneInDoubt = (plan : Plan) (ending : Ending) → OnlyLastInDoubt (changes_in plan ending)

-- ---- one session

abbrev pub change_of : Marked → Change
change_of (Acknowledged change) = change
change_of (InDoubt change) = change

-- all of the changes made, in order
abbrev pub made : List Change → Member → Member
made [] member = member
made (change ∷ changes) member = made changes (applied change member)

abbrev pub AllInDoubt : List Marked → Type 0
AllInDoubt [] = Unit {0}
AllInDoubt (Acknowledged change ∷ changes) = ⊥
AllInDoubt (InDoubt change ∷ changes) = AllInDoubt changes

-- the first of the changes leave it, and no acknowledged one is behind them
pub record IsLeftByPrefix (changes : List Marked) (before after : Member) : Type 0 where
  pub count : ℕ
  pub left : after ≡ made (take count (map change_of changes)) before
  pub missing : AllInDoubt (drop count changes)

-- what a session leaves is left by a prefix of its changes that contains every acknowledged one
abbrev pub PrefixIsLeft : Type 0
PrefixIsLeft = (disk : Disk) (before after : Members) (plan : Plan) (ending : Ending)
    → SessionStep disk before plan ending after → (member : Member) → Contains after member
    → (start : Member) × Contains before start
    × IsLeftByPrefix (changes_in plan ending) start member

-- ---- what becomes of doubt

abbrev pub is_opened : Ending → Bool
is_opened (NotOpened fault) = false
is_opened StoppedOpening = false
is_opened (Rested replies) = true
is_opened (StoppedCall replies) = true
is_opened (Broke replies) = true
is_opened (Grouped replies count) = true
is_opened (StoppedGroup replies count) = true
is_opened (BrokeGroup replies count) = true

-- A session that was opened ends all earlier doubt: what it leaves is left from one member alone.
abbrev pub OpeningEndsDoubt : Type 0
OpeningEndsDoubt = (disk : Disk) (before after : Members) (plan : Plan) (ending : Ending)
    → SessionStep disk before plan ending after → is_opened ending ≡ true → (start : Member)
    × Contains before start
    × ((member : Member) → Contains after member → LeftBy (changes_in plan ending) start member)

-- a stop or a fault of the device cut the opening short
abbrev pub is_cut : Ending → Bool
is_cut (NotOpened Device) = true
is_cut StoppedOpening = true
is_cut ending = false

-- An opening that answered no handle takes no member away. Where it was cut short it adds what it
-- makes of each, and where it was refused it adds none.
pub record RefusalTakesNothing : Type 0 where
  pub cut : (disk : Disk) (before after : Members) (plan : Plan) (ending : Ending)
      → SessionStep disk before plan ending after → is_cut ending ≡ true → (member : Member)
      → Contains before member → Contains after member × Contains after (opened plan.how member)
  pub refused : (disk : Disk) (before after : Members) (plan : Plan) (ending : Ending)
      → SessionStep disk before plan ending after → is_opened ending ≡ false
      → is_cut ending ≡ false → after ≡ before

-- A broken handle leaves the call that broke it in doubt: with it and without it.
abbrev pub BreakLeavesBoth : Type 0
BreakLeavesBoth = (disk : Disk) (before after : Members) (plan : Plan) (replies : List Reply)
    → SessionStep disk before plan (Broke replies) after → (start : Member) × Contains before start
    × ((member : Member) → LeftBy (changes_in plan (Broke replies)) start member
    → Contains after member)

-- whatever the changes of a session that ended so may leave, it leaves
abbrev pub LeavesBoth : (List Reply → ℕ → Ending) → Type 0
LeavesBoth ends = (disk : Disk) (before after : Members) (plan : Plan) (replies : List Reply)
    (count : ℕ) → SessionStep disk before plan (ends replies count) after → (start : Member) × Contains before start
    × ((member : Member) → LeftBy (changes_in plan (ends replies count)) start member
    → Contains after member)

-- A group that was stopped, or that broke the handle, is left in doubt whole: with all of its pairs
-- and with none.
pub record GroupCutShortLeavesBoth : Type 0 where
  pub stopped : LeavesBoth StoppedGroup
  pub broke : LeavesBoth BrokeGroup

-- ---- what a device that didn't fail leaves out

-- no reply, and no opening, was a refusal by the device
abbrev pub IsNeverFailed : Ending → Type 0
IsNeverFailed (NotOpened fault) = fault ≢ Device
IsNeverFailed StoppedOpening = Unit {0}
IsNeverFailed (Rested replies) = has_device replies ≡ false
IsNeverFailed (StoppedCall replies) = has_device replies ≡ false
IsNeverFailed (Broke replies) = ⊥
IsNeverFailed (Grouped replies count) = has_device replies ≡ false
IsNeverFailed (StoppedGroup replies count) = has_device replies ≡ false
IsNeverFailed (BrokeGroup replies count) = ⊥

-- Where the device didn't fail in a session, it refused nothing.
abbrev pub DeviceIsTheCause : Type 0
DeviceIsTheCause = (disk : Disk) (before after : Members) (plan : Plan) (ending : Ending)
    → SessionStep disk before plan ending after → (MoreFaults disk.at_start disk.at_end → ⊥)
    → IsNeverFailed ending
