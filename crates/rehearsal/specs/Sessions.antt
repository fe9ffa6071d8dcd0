-- A session of the code as one of the definitions.
use Rattle.std.specs.Prelude.{◌≡◌, ◌≢◌, ◌⊎◌, ℕ, ◌/◌, false, List, [], ◌∷◌, ◌++◌, map, take, length, vec_len, None, IfSome, Result}
use Rattle.std.specs.Result.{result_unwrap_or}
use Rattle.dbm_model.specs.Bounds.{Bounds}
use Rattle.sect_dev.specs.Device.{Candidates, MoreFaults}
use Rattle.sect_dev.specs.declared.device.SectorDev.{Ghosts}
use Rattle.page_io.specs.Store.{Settled}
use Rattle.page_io.specs.Versions.{model_version}
use Rattle.dbm_model.specs.Calls as calls
use Rattle.dbm_model.specs.Pairs as model_pairs
use Rattle.dbm_model.specs.States.{Handle}
use Rattle.dbm_model.specs.Members as members
use Rattle.dbm_model.specs.Members.{Members}
use Rattle.dbm_model.specs.Sessions as model
use Rattle.dbm_model.specs.Sessions.{Disk, Plan, StoppedOpening, StoppedCall, StoppedGroup, Rests, CutShort, Breaks, Groups, GroupCutShort, SessionStep}
use Rattle.redo_area.specs.Opening.{IsClosed}
use Rattle.dbm_fault.specs.Faults.{fault_of}
use Rattle.dbm_fault.specs.declared.fault.Fault.{Fault}
use Rattle.dbm_fault.specs.declared.fault.Fault.TheVariants.{Device}
use Rattle.file_opening.specs.Opening.{early_fault, IsRefusedOpening}
use Rattle.file_opening.specs.declared.open_how.Access.TheVariants.{ReadWrite}
use Rattle.file_opening.specs.declared.open_how.OpenHow.{OpenHow}
use Rattle.dbm_file.specs.Pairs.{pair_of}
use Rattle.dbm_file.specs.declared.pair.Pair.{Pair}
use Rattle.dbm_file.specs.Calls.{call_of, reply_of}
use Rattle.dbm_file.specs.declared.calls.Call.{Call}
use Rattle.rehearsal.specs.Members.{StandsForOne, AllStandFor}
use Rattle.rehearsal.specs.declared.sessions.Opening.{Opening}
use Rattle.rehearsal.specs.declared.sessions.Ending.{Ending}
use Rattle.rehearsal.specs.declared.sessions.Ending.TheVariants.{NotOpened, NoMemory, Rested, Unsettled, Broke, BrokeGroup}

-- ---- what it is asked to do, and how it ended

-- the bounds of a database that is made or emptied
abbrev pub asked_bounds : Opening → Bounds
asked_bounds how = record { limit = how.limit; version = model_version how.version }

abbrev pub opening_of : Opening → members.Opening
opening_of how = record {
  create = how.create;
  truncate = how.truncate;
  bounds = asked_bounds how;
}

abbrev pub plan_of : Opening → List Call → List Pair → Plan
plan_of how calls group = record {
  how = opening_of how;
  calls = map call_of calls;
  group = map pair_of group;
}

-- how the database is opened: for writing, and also where one is there
abbrev pub for_writing : Opening → OpenHow
for_writing how = record {
  access = ReadWrite;
  create = how.create;
  exclusive = false;
  truncate = how.truncate;
  limit = how.limit;
  version = how.version;
  commits = how.commits;
  kept_pages = None;
}

-- how it ended, where the commit of the group had so many pairs if it broke the database
abbrev pub ending_of : Ending → ℕ → model.Ending
ending_of (NotOpened fault) count = model.NotOpened (fault_of fault)
ending_of NoMemory count = model.Rested []
ending_of (Rested replies stored) count =
    model.Grouped (map reply_of replies.items) (result_unwrap_or stored 0)
ending_of (Unsettled replies stored) count =
    model.Grouped (map reply_of replies.items) (result_unwrap_or stored 0)
ending_of (Broke replies) count = model.Broke (map reply_of replies.items)
ending_of (BrokeGroup replies) count = model.BrokeGroup (map reply_of replies.items) count

-- there is one reply a call, where calls were made
abbrev pub IsOneEach : List Call → Ending → Type 0
IsOneEach calls (NotOpened fault) = Unit {0}
IsOneEach calls NoMemory = Unit {0}
IsOneEach calls (Rested replies stored) = vec_len replies ≡ length calls
IsOneEach calls (Unsettled replies stored) = vec_len replies ≡ length calls
IsOneEach calls (Broke replies) = vec_len replies ≡ length calls
IsOneEach calls (BrokeGroup replies) = vec_len replies ≡ length calls

abbrev pub IfNotOpened : Ending → (Fault → Type 0) → Type 0
IfNotOpened (NotOpened fault) P = P fault
IfNotOpened ending P = Unit {0}

-- it was closed
abbrev pub IfRested : Ending → Type 0 → Type 0
IfRested (Rested replies stored) P = P
IfRested ending P = Unit {0}

-- the closing failed
abbrev pub IfUnsettled : Ending → Type 0 → Type 0
IfUnsettled (Unsettled replies stored) P = P
IfUnsettled ending P = Unit {0}

-- how the group was stored, where the database was whole behind it
abbrev pub IfGrouped : Ending → (Result ℕ Fault → Type 0) → Type 0
IfGrouped (Rested replies stored) P = P stored
IfGrouped (Unsettled replies stored) P = P stored
IfGrouped ending P = Unit {0}

-- all is on the disk, and no commit on its way, but for one in a log
abbrev pub IsSettled : {D : Type 0} → Ghosts D → D → Type 0
IsSettled bound dev =
    (end : ℕ) × IsClosed (bound.sectors dev / 4) end (bound.candidate dev) (bound.seen dev)

-- why an honest device was not opened: what is asked can't be had of a device of its size; a call
-- of it failed; or an image that it had at the start is refused so
pub record WhyNotOpened {D : Type 0} (bound : Ghosts D) (how : OpenHow) (old new : D)
    (fault : Fault) : Type 0 where
  pub early : IfSome (early_fault how (bound.sectors old)) (λ due. (fault ≡ due) × (new ≡ old))
  pub device : fault ≡ Device → MoreFaults (bound.faults old) (bound.faults new)
  pub refused : early_fault how (bound.sectors old) ≡ None → fault ≢ Device
      → IsRefusedOpening how (bound.sectors old) (bound.candidate old) (bound.candidate new) fault

-- ---- what it leaves

-- the device as the definitions see it, from what it was at the start to what it is at the end
abbrev pub disk_of : {D : Type 0} → Ghosts D → D → D → Disk
disk_of bound old new = record {
  pages = bound.sectors old / 4;
  at_start = bound.faults old;
  at_end = bound.faults new;
}

-- The session may end so on that device, and each image of it that may then be left stands for a
-- member of what it leaves.
pub record Leaves (disk : Disk) (before : Members) (plan : Plan) (ending : model.Ending)
    (pages : ℕ) (candidate : Candidates) : Type 0 where
  pub after : Members
  pub step : SessionStep disk before plan ending after
  pub stand : AllStandFor after pages candidate

-- ---- what a stop within it leaves

abbrev pub replies_in : model.Ending → List calls.Reply
replies_in (model.NotOpened fault) = []
replies_in StoppedOpening = []
replies_in (model.Rested replies) = replies
replies_in (StoppedCall replies) = replies
replies_in (model.Broke replies) = replies
replies_in (model.Grouped replies stored) = replies
replies_in (StoppedGroup replies count) = replies
replies_in (model.BrokeGroup replies count) = replies

-- these are the first of those replies
abbrev pub AreFirst : List calls.Reply → List calls.Reply → Type 0
AreFirst first all = (later : List calls.Reply) × (all ≡ first ++ later)

-- and there is one more of them
abbrev pub AreBefore : List calls.Reply → List calls.Reply → Type 0
AreBefore first all =
    (next : calls.Reply) × (later : List calls.Reply) × (all ≡ first ++ next ∷ later)

-- a session that ended so ends that way where it is stopped: within its opening, where some of its
-- calls have been answered, as they were, within the next one, within the commit of its group, or
-- behind it
abbrev pub IsStopOf : model.Ending → model.Ending → Type 0
IsStopOf ending StoppedOpening = Unit {0}
IsStopOf ending (model.Rested replies) = AreFirst replies (replies_in ending)
IsStopOf ending (StoppedCall replies) = AreBefore replies (replies_in ending)
IsStopOf ending (model.NotOpened fault) = ⊥
IsStopOf ending (model.Broke replies) = ⊥
IsStopOf ending (model.Grouped replies stored) = ending ≡ model.Grouped replies stored
IsStopOf ending (StoppedGroup replies count) =
    (ending ≡ model.Grouped replies count) ⊎ (ending ≡ model.BrokeGroup replies count)
IsStopOf ending (model.BrokeGroup replies count) = ⊥

-- what an image settles to stands for a member of what such a stop leaves
pub record IsLeftByStop (disk : Disk) (before : Members) (plan : Plan) (ending : model.Ending)
    (settled : Settled) : Type 0 where
  pub stop : model.Ending
  pub is_stop : IsStopOf ending stop
  pub after : Members
  pub step : SessionStep disk before plan stop after
  pub stands : StandsForOne after settled

-- ---- the same of the calls alone, from an open database on, on a device that has failed so often at
-- the end

abbrev pub GoesOn : ℕ → Handle → List calls.Call → List model_pairs.Pair → model.Ending → Members
    → Type 0
GoesOn most first calls group (model.NotOpened fault) after = ⊥
GoesOn most first calls group StoppedOpening after = ⊥
GoesOn most first calls group (model.Rested replies) after = Rests most first calls replies after
GoesOn most first calls group (StoppedCall replies) after =
    CutShort most first calls replies after
GoesOn most first calls group (model.Broke replies) after = Breaks most first calls replies after
GoesOn most first calls group (model.Grouped replies stored) after =
    Groups most first calls replies (take stored group) after
GoesOn most first calls group (StoppedGroup replies count) after =
    GroupCutShort most first calls replies (take count group) after
GoesOn most first calls group (model.BrokeGroup replies count) after =
    GroupCutShort most first calls replies (take count group) after
    × MoreFaults first.faults most

pub record CallsLeave (most : ℕ) (first : Handle) (calls : List calls.Call)
    (group : List model_pairs.Pair) (ending : model.Ending) (pages : ℕ)
    (candidate : Candidates) : Type 0 where
  pub after : Members
  pub goes : GoesOn most first calls group ending after
  pub stand : AllStandFor after pages candidate

pub record IsLeftByCalls (most : ℕ) (first : Handle) (calls : List calls.Call)
    (group : List model_pairs.Pair) (ending : model.Ending) (settled : Settled) : Type 0 where
  pub stop : model.Ending
  pub is_stop : IsStopOf ending stop
  pub after : Members
  pub goes : GoesOn most first calls group stop after
  pub stands : StandsForOne after settled
