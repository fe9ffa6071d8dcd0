-- Why a call is refused, and what has to be refused, told from the handle and the reply.
use Rattle.std.specs.Prelude.{◌≡◌, ◌≢◌, ◌⊎◌, ◌+◌, ◌*◌, ◌<◌, ◌≤◌, ℕ, List, length, true, false, Some, None}
use Rattle.std.specs.FinMap.{get, len}
use Rattle.dbm_model.specs.Bounds.{V1, upgraded}
use Rattle.dbm_model.specs.Calls.{Call, Store, Fetch, Delete, Next, Error, Clear, Upgrade, Mode, Insert, Reply, Kept, Absent, Number, Refused, Fault, Memory, Device, Broken, ReadOnly, TooLong, Full, NoPass, NoRoom, TooSmall, is_changing}
use Rattle.dbm_model.specs.FaultCount.{MoreFaults}
use Rattle.dbm_model.specs.Pairs.{Key, Contents, is_allowed, IsAllowed}
use Rattle.dbm_model.specs.Sizes.{home}
use Rattle.dbm_model.specs.States.{State, NotBegun, Handle, first_fault, error_number}
use Rattle.dbm_model.specs.Steps.{IsShort, Step}

-- usable, and opened for changes
pub record MayChange (s : State) : Type 0 where
  pub usable : s.usable ≡ true
  pub writable : s.writable ≡ true

-- a store of a pair that is longer than the version allows
abbrev pub IsTooLong : State → Call → Type 0
IsTooLong s (Store key content mode) = is_allowed s.bounds.version (key, content) ≡ false
IsTooLong s call = ⊥

-- a store of a new key where there are as many pairs as the limit allows
abbrev pub IsOneTooMany : Contents → ℕ → Call → Type 0
IsOneTooMany map limit (Store key content mode) = (get map key ≡ None) × (limit ≤ len map)
IsOneTooMany map limit call = ⊥

-- to version 2, on a device without the room that it asks for
pub record IsUpgradeOfSmall (h : Handle) (call : Call) : Type 0 where
  pub upgrade : call ≡ Upgrade
  pub first : h.state.bounds.version ≡ V1
  pub small : h.capacity < 2 * home (upgraded h.state.bounds)

-- a key has a content that lies in pages of its own
abbrev pub HasFar : Contents → Key → Type 0
HasFar map key =
    (content : List ℕ) × (get map key ≡ Some content) × (2026 < length key + length content)

-- why a call takes memory: a store adds a bucket, or the content that is stored, replaced, deleted
-- or fetched lies in pages of its own
abbrev pub NeedsMemory : Handle → Call → Type 0
NeedsMemory h (Store key content mode) =
    ((get h.state.map key ≡ None) × (8 * h.buckets ≤ len h.state.map))
    ⊎ ((2026 < length key + length content) ⊎ HasFar h.state.map key)
NeedsMemory h (Fetch key) = HasFar h.state.map key
NeedsMemory h (Delete key) = HasFar h.state.map key
NeedsMemory h call = ⊥

-- what a refusal by this fault says of the handle and the call
abbrev pub IsDue : Fault → Handle → Call → Handle → Type 0
IsDue Broken before call after = before.state.usable ≡ false
IsDue ReadOnly before call after =
    (before.state.usable ≡ true) × (before.state.writable ≡ false) × (is_changing call ≡ true)
IsDue TooLong before call after = MayChange before.state × IsTooLong before.state call
IsDue Full before call after =
    MayChange before.state × IsOneTooMany before.state.map before.state.bounds.limit call
IsDue NoPass before call after =
    (before.state.usable ≡ true) × (call ≡ Next) × (before.state.pass ≡ NotBegun)
IsDue Device before call after =
    (before.state.usable ≡ true) × MoreFaults before.faults after.faults
IsDue Memory before call after =
    (before.state.usable ≡ true) × (is_changing call ≡ true → before.state.writable ≡ true)
    × NeedsMemory before call
IsDue NoRoom before call after = MayChange before.state × (is_changing call ≡ true) × IsShort before
IsDue TooSmall before call after = MayChange before.state × IsUpgradeOfSmall before call
IsDue fault before call after = ⊥

-- a call is refused only where that is due
abbrev pub RefusesOnlyWhereDue : Type 0
RefusesOnlyWhereDue = (before after : Handle) (call : Call) (fault : Fault)
    → Step before call (Refused fault) after → IsDue fault before call after

-- a broken handle refuses each call that looks at the file or changes it
abbrev pub BrokenRefuses : Type 0
BrokenRefuses = (before after : Handle) (call : Call) (reply : Reply) → Step before call reply after
    → before.state.usable ≡ false → (call ≡ Error) ⊎ ((call ≡ Clear) ⊎ (reply ≡ Refused Broken))

-- a handle for reading refuses each change, and keeps its map
abbrev pub ReadingRefuses : Type 0
ReadingRefuses = (before after : Handle) (call : Call) (reply : Reply)
    → Step before call reply after → before.state.usable ≡ true → before.state.writable ≡ false
    → is_changing call ≡ true → reply ≡ Refused ReadOnly

abbrev pub ReadingKeeps : Type 0
ReadingKeeps = (before after : Handle) (call : Call) (reply : Reply) → Step before call reply after
    → before.state.writable ≡ false → after.state.map ≡ before.state.map

-- the limit, and whether it was opened for changes, stay, and but for an upgrade the version
abbrev pub SettingsStay : Type 0
SettingsStay = (before after : Handle) (call : Call) (reply : Reply) → Step before call reply after
    → (after.state.bounds.limit ≡ before.state.bounds.limit)
    × (after.state.writable ≡ before.state.writable)
    × (call ≢ Upgrade → after.state.bounds ≡ before.state.bounds)

-- a pair that is too long is refused, whatever its key
abbrev pub TooLongIsRefused : Type 0
TooLongIsRefused = (before after : Handle) (call : Call) (reply : Reply)
    → Step before call reply after → MayChange before.state → IsTooLong before.state call
    → reply ≡ Refused TooLong

-- an insert of an allowed pair whose key is there keeps what is there, also at the limit
abbrev pub InsertKeeps : Type 0
InsertKeeps = (before after : Handle) (key content old : List ℕ) (reply : Reply)
    → Step before (Store key content Insert) reply after → MayChange before.state
    → IsAllowed before.state.bounds.version (key, content) → get before.state.map key ≡ Some old →
    (reply ≡ Kept) ⊎ (reply ≡ Refused Device)

-- an allowed pair with a new key is refused at the limit
abbrev pub FullIsRefused : Type 0
FullIsRefused = (before after : Handle) (key content : List ℕ) (mode : Mode) (reply : Reply)
    → Step before (Store key content mode) reply after → MayChange before.state
    → IsAllowed before.state.bounds.version (key, content) →
    IsOneTooMany before.state.map before.state.bounds.limit (Store key content mode)
    → (reply ≡ Refused Full) ⊎ (reply ≡ Refused Device)

-- a delete of a key that isn't there says so
abbrev pub AbsentIsTold : Type 0
AbsentIsTold = (before after : Handle) (key : Key) (reply : Reply)
    → Step before (Delete key) reply after → MayChange before.state
    → get before.state.map key ≡ None → (reply ≡ Absent) ⊎ (reply ≡ Refused Device)

-- dbm_error gives the number of the error that is kept, and changes nothing
abbrev pub ErrorIsTold : Type 0
ErrorIsTold = (before after : Handle) (reply : Reply) → Step before Error reply after
    → (reply ≡ Number (error_number before.state.error)) × (after.state ≡ before.state)

-- dbm_clearerr forgets it, and changes nothing else
abbrev pub ErrorIsCleared : Type 0
ErrorIsCleared = (before after : Handle) (reply : Reply) → Step before Clear reply after
    → (reply ≡ Number 0) × (after.state ≡ record before.state { error = None })

-- a refusal sets the error where there was none
abbrev pub FirstFaultIsKept : Type 0
FirstFaultIsKept = (before after : Handle) (call : Call) (fault : Fault)
    → Step before call (Refused fault) after
    → after.state.error ≡ first_fault before.state.error fault
