-- How a call on a database is answered, and what it leaves.
use Rattle.std.specs.Prelude.{◌≡◌, ◌⊎◌, ◌↔◌, ◌≤◌, true, false, Result, OnOk, OnErr, IfErr, IsErrOf}
use Rattle.dbm_file.specs.Held.{Held, held_by}
use Rattle.dbm_model.specs.Bounds.{Bounds}
use Rattle.sect_dev.specs.Device.{LeavesOnly, MoreFaults}
use Rattle.dbm_model.specs.Calls.{Call, Reply}
use Rattle.dbm_model.specs.States.{Handle, State, first_fault}
use Rattle.dbm_model.specs.Steps.{Changes, case_of, Step}
use Rattle.page_io.specs.Store.{Settled}
use Rattle.page_io.specs.Meaning.{ImageStandsFor}
use Rattle.page_io.specs.Committing.{IsUntouched}
use Rattle.page_io.specs.declared.store.PageStore.{Ghosts}
use Rattle.dbm_fault.specs.Faults.{fault_of}
use Rattle.dbm_file.specs.Passing.{pass_of}
use Rattle.dbm_file.specs.Database.{store_of, meta_kept, page_state, error_of, IsAt}
use Rattle.dbm_fault.specs.declared.fault.Fault.{Fault}
use Rattle.dbm_fault.specs.declared.fault.Fault.TheVariants.{Device, Broken}
use Rattle.dbm_file.specs.declared.database.Database.{Database}

-- the call asks for a change to what this holds, by the rule that it falls under
abbrev pub AsksFor : Handle → Call → Held → Type 0
AsksFor h call left =
    (reply : Reply) × (next : State) × (case_of h call ≡ Changes reply next) × (left ≡ held_by next)

-- what a stop within the call may leave: what was held before, what is held after, or where the call
-- broke the database what it asks for
abbrev pub MayBeLeft : Handle → Handle → Call → Held → Type 0
MayBeLeft before after call left =
    (left ≡ held_by before.state) ⊎ ((left ≡ held_by after.state)
    ⊎ ((after.state.usable ≡ false) × AsksFor before call left))

-- an image stands for one of these
abbrev pub StandsForSome : (Held → Type 0) → Settled → Type 0
StandsForSome Left settled = (left : Held) × Left left × ImageStandsFor settled left.map left.bounds

-- every image of every moment since the old database stands for one of these
abbrev pub Survives : {S : Type 0} {s : Ghosts S} → Database S s → Database S s
    → (Held → Type 0) → Type 0
Survives {S} {s} old new Left =
    LeavesOnly s.moment s.settled_since (store_of old) (store_of new)
    (StandsForSome Left)

-- A call on a database at this handle: a step of the model, and what a stop leaves within it.
pub record IsStep {S : Type 0} {s : Ghosts S} (old new : Database S s) (before : Handle)
    (call : Call) (reply : Reply) : Type 0 where
  pub after : Handle
  pub step : Step before call reply after
  pub is_at : IsAt new after
  pub survives : (page_state old).usable ≡ true → Survives old new (MayBeLeft before after call)

-- What any number of calls leave on any device, with these bounds.
pub record IsSameUnder {S : Type 0} {s : Ghosts S} (wanted : Bounds) (old new : Database S s)
    : Type 0 where
  pub honesty : s.honest (store_of new) ↔ s.honest (store_of old)
  pub later : s.faults (store_of old) ≤ s.faults (store_of new)
  pub bounds : (meta_kept new).bounds ≡ wanted
  pub capacity : (page_state new).capacity ≡ (page_state old).capacity
  pub writable : (page_state new).writable ≡ (page_state old).writable
  pub base : (page_state new).base ≡ (page_state old).base
  -- a broken one makes no device call
  pub still : (page_state old).usable ≡ false → store_of new ≡ store_of old
  -- one that was opened for reading writes nothing and syncs nothing
  pub reading : s.honest (store_of old) → (page_state old).writable ≡ false →
      (s.moment (store_of new)).at ≡ (s.moment (store_of old)).at

-- but for an upgrade with the bounds that were there
abbrev pub IsSameDatabase : {S : Type 0} {s : Ghosts S} → Database S s → Database S s → Type 0
IsSameDatabase old new = IsSameUnder (meta_kept old).bounds old new

-- What any call leaves on any device, whatever its bytes.
pub record IsCallEndedWith {S T : Type 0} {s : Ghosts S} (wanted : Bounds) (old new : Database S s)
    (result : Result T Fault) : Type 0 where
  pub goes : IsSameUnder wanted old new
  pub fault : IsErrOf result Device → MoreFaults (s.faults (store_of old)) (s.faults (store_of new))
  -- the first fault is kept
  pub no_error : OnOk result (error_of new ≡ error_of old)
  pub error : IfErr result (λ e. error_of new ≡ first_fault (error_of old) (fault_of e))
  -- a refusal changes nothing, but that a fault of the device may break the database
  pub refused : OnErr result ((meta_kept new ≡ meta_kept old)
      × ((page_state new).end ≡ (page_state old).end) × (pass_of new ≡ pass_of old))
  -- and commits nothing, writes nothing and syncs nothing
  pub kept : s.honest (store_of old) → OnErr result ((page_state new).usable ≡ true
      → IsUntouched s (store_of old) (store_of new))
  pub breaks : ((page_state new).usable ≡ (page_state old).usable)
      ⊎ (IsErrOf result Device × ((page_state new).usable ≡ false))
  pub broken : IsErrOf result Broken ↔ ((page_state old).usable ≡ false)

abbrev pub IsCallEnded : {S T : Type 0} {s : Ghosts S} → Database S s → Database S s
    → Result T Fault → Type 0
IsCallEnded old new result = IsCallEndedWith (meta_kept old).bounds old new result
