-- What each call replies, and the state after it.
use Rattle.std.specs.Prelude.{◌≡◌, ◌⊎◌, ℕ, ◌+◌, ◌*◌, ◌<◌, ◌≤◌, Bool, true, false, not, ◌||◌, nat_le, nat_lt, IsSome, if◌then◌else◌, List, [], ◌∷◌, Option, Some, None}
use Rattle.std.specs.FinMap.{get, insert, remove, len}
use Rattle.dbm_model.specs.Bounds.{Version, V1, V2, upgraded}
use Rattle.dbm_model.specs.Calls.{Mode, Insert, Replace, Call, Store, Fetch, Delete, First, Next, Error, Clear, Upgrade, Reply, Stored, Kept, Deleted, Absent, Bytes, NoRecord, End, Number, Upgraded, Refused, Fault, Memory, Device, Broken, ReadOnly, TooLong, Full, NoPass, NoRoom, TooSmall}
use Rattle.dbm_model.specs.FaultCount.{MoreFaults}
use Rattle.dbm_model.specs.KeyOrder.{ComesBefore}
use Rattle.dbm_model.specs.Pairs.{Key, Contents, is_allowed, is_far}
use Rattle.dbm_model.specs.Sizes.{home, most_taken}
use Rattle.dbm_model.specs.States.{State, Pass, NotBegun, Begun, Behind, Handle, flagged, error_number}

-- which rule a call falls under
pub data Case : Type 0 where
  -- replied from the handle alone
  Tells : Reply → State → Case
  -- refused before the file is looked at
  Refuses : Fault → Case
  -- refused by what is in the file
  Declines : Fault → Case
  -- replied from the file, which stays
  Finds : Reply → Case
  -- the next key of a pass that stands there, or the end where there is none
  Passes : Pass → Case
  -- the state changes to this one, by its map or its bounds
  Changes : Reply → State → Case

-- with another map
abbrev pub with_map : State → Contents → State
with_map s map = record s { map = map }

-- a fetch, by what the key has
abbrev pub fetched : Option (List ℕ) → Case
fetched None = Finds NoRecord
fetched (Some content) = Finds (Bytes content)

-- a store of an allowed pair, by what the key has
abbrev pub stored : State → Key → List ℕ → Mode → Option (List ℕ) → Case
stored s key content Insert (Some old) = Finds Kept
stored s key content Replace (Some old) = Changes Stored (with_map s (insert s.map key content))
stored s key content mode None = if nat_le s.bounds.limit (len s.map) then Declines Full
    else Changes Stored (with_map s (insert s.map key content))

-- a delete, by what the key has
abbrev pub deleted : State → Key → Option (List ℕ) → Case
deleted s key None = Finds Absent
deleted s key (Some content) = Changes Deleted (with_map s (remove s.map key))

-- the next step of a pass
abbrev pub passed : Pass → Case
passed NotBegun = Refuses NoPass
passed from = Passes from

-- an upgrade, by the version, where there is room for so many pages
abbrev pub raised : ℕ → State → Version → Case
raised capacity s V1 = if nat_lt capacity (2 * home (upgraded s.bounds)) then Refuses TooSmall
    else Changes Upgraded (record s { bounds = upgraded s.bounds })
raised capacity s V2 = Tells Upgraded s

abbrev pub usable_case : ℕ → State → Call → Case
usable_case capacity s (Store key content mode) =
    if not s.writable then Refuses ReadOnly
    else if is_allowed s.bounds.version (key, content)
    then stored s key content mode (get s.map key)
    else Refuses TooLong
usable_case capacity s (Fetch key) = fetched (get s.map key)
usable_case capacity s (Delete key) = if s.writable then deleted s key (get s.map key)
    else Refuses ReadOnly
usable_case capacity s First = Passes Begun
usable_case capacity s Next = passed s.pass
usable_case capacity s Error = Tells (Number (error_number s.error)) s
usable_case capacity s Clear = Tells (Number 0) (record s { error = None })
usable_case capacity s Upgrade = if s.writable then raised capacity s s.bounds.version
    else Refuses ReadOnly

-- a change was left in doubt: only the error number can still be asked
abbrev pub broken_case : ℕ → State → Call → Case
broken_case capacity s Error = usable_case capacity s Error
broken_case capacity s Clear = usable_case capacity s Clear
broken_case capacity s _ = Refuses Broken

abbrev pub case_for : ℕ → State → Call → Case
case_for capacity s call = if s.usable then usable_case capacity s call
    else broken_case capacity s call

abbrev pub case_of : Handle → Call → Case
case_of h call = case_for h.capacity h.state call

-- a pass that stands there has the key before it
abbrev pub IsAhead : Pass → Key → Type 0
IsAhead NotBegun key = ⊥
IsAhead Begun key = Unit {0}
IsAhead (Behind last) key = ComesBefore last key

-- the least of the keys that a pass has before it
pub record IsNextKey (map : Contents) (from : Pass) (key : Key) : Type 0 where
  pub there : IsSome (get map key)
  pub ahead : IsAhead from key
  pub least : (other : Key) → IsSome (get map other) → IsAhead from other
      → ComesBefore other key → ⊥

-- it has none before it
abbrev pub IsOver : Contents → Pass → Type 0
IsOver map from = (key : Key) → IsSome (get map key) → IsAhead from key → ⊥

-- a pass gives the next key, and the end where there is none
abbrev pub GivesKey : State → Pass → Reply → State → Type 0
GivesKey s from reply after =
    (IsOver s.map from × (reply ≡ End) × (after ≡ record s { pass = from }))
    ⊎ ((key : Key) × IsNextKey s.map from key × (reply ≡ Bytes key)
    × (after ≡ record s { pass = Behind key }))

-- what comes where nothing fails
abbrev pub Answers : State → Case → Reply → State → Type 0
Answers s (Tells said told) reply after = (reply ≡ said) × (after ≡ told)
Answers s (Refuses fault) reply after = (reply ≡ Refused fault) × (after ≡ flagged fault s)
Answers s (Declines fault) reply after = (reply ≡ Refused fault) × (after ≡ flagged fault s)
Answers s (Finds found) reply after = (reply ≡ found) × (after ≡ s)
Answers s (Passes from) reply after = GivesKey s from reply after
Answers s (Changes said next) reply after = (reply ≡ said) × (after ≡ next)

-- a fault of the device, which changes nothing
abbrev pub Fails : Handle → Reply → Handle → Type 0
Fails h reply after = (reply ≡ Refused Device) × MoreFaults h.faults after.faults
    × (after.state ≡ flagged Device h.state)

-- a fault of the device in the midst of a change: the file stands for the old map and bounds or for
-- the new ones until it is opened again
abbrev pub Breaks : Handle → State → Reply → Handle → Type 0
Breaks h next reply after =
    (reply ≡ Refused Device) × MoreFaults h.faults after.faults
    × (left : State) × ((left ≡ h.state) ⊎ (left ≡ next))
    × (after.state
    ≡ record (flagged Device h.state) { map = left.map; bounds = left.bounds; usable = false })

-- a content of the key lies in pages of its own
abbrev pub holds_far : Key → Option (List ℕ) → Bool
holds_far key None = false
holds_far key (Some old) = is_far (key, old)

-- there are eight pairs to a bucket, so a further one adds a bucket
abbrev pub is_full : Handle → Bool
is_full h = nat_le (8 * h.buckets) (len h.state.map)

-- a store takes memory, by what the key has: one that adds a bucket, and one that writes a content
-- into pages of its own or gives such pages back
abbrev pub store_takes : Handle → Key → List ℕ → Mode → Option (List ℕ) → Bool
store_takes h key content Insert (Some old) = false
store_takes h key content Replace (Some old) = is_far (key, content) || is_far (key, old)
store_takes h key content mode None = is_full h || is_far (key, content)

-- a call takes memory: such a store, and a fetch or a delete of such a content
abbrev pub takes_memory : Handle → Call → Bool
takes_memory h (Store key content mode) = store_takes h key content mode (get h.state.map key)
takes_memory h (Fetch key) = holds_far key (get h.state.map key)
takes_memory h (Delete key) = holds_far key (get h.state.map key)
takes_memory h call = false

-- no memory for a call that takes some
abbrev pub LacksMemory : Handle → Call → Reply → Handle → Type 0
LacksMemory h call reply after =
    (reply ≡ Refused Memory) × (after.state ≡ flagged Memory h.state)
    × (takes_memory h call ≡ true)

-- there may be no room for a change: not for twice as many pages as a database of the bounds needs,
-- nor for as many more as the map has pairs, and those of a store, with all of them twice
abbrev pub IsShort : Handle → Type 0
IsShort h = (h.capacity < 2 * home h.state.bounds)
    × (h.capacity < 2 * (h.pages + len h.state.map + most_taken h.state.bounds.version))

-- no room in the file for a change
abbrev pub LacksRoom : Handle → Reply → Handle → Type 0
LacksRoom h reply after =
    (reply ≡ Refused NoRoom) × IsShort h × (after.state ≡ flagged NoRoom h.state)

-- the refusals that may come instead, none of which changes the map of a usable handle
abbrev pub Suffers : Handle → Call → Case → Reply → Handle → Type 0
Suffers h call (Tells said told) reply after = ⊥
Suffers h call (Refuses fault) reply after = ⊥
Suffers h call (Declines fault) reply after = Fails h reply after
Suffers h call (Finds found) reply after = Fails h reply after ⊎ LacksMemory h call reply after
Suffers h call (Passes from) reply after = Fails h reply after
Suffers h call (Changes said next) reply after =
    Fails h reply after ⊎ (Breaks h next reply after
    ⊎ (LacksMemory h call reply after ⊎ LacksRoom h reply after))

-- how many pages a call adds to the file at most: a store that is acknowledged those of a split,
-- any other none
abbrev pub growth : Handle → Reply → ℕ
growth h Stored = len h.state.map + most_taken h.state.bounds.version
growth h reply = 0

-- how many buckets it opens, where there are then so many pairs
abbrev pub buckets_added : Handle → Reply → ℕ → ℕ
buckets_added h Stored pairs = if nat_lt (8 * h.buckets) pairs then 1 else 0
buckets_added h reply pairs = 0

-- from one handle, the call may get this reply and leave the other
pub record Step (before : Handle) (call : Call) (reply : Reply) (after : Handle) : Type 0 where
  pub counts : before.faults ≤ after.faults
  pub capacity : after.capacity ≡ before.capacity
  pub pages : (before.pages ≤ after.pages) × (after.pages ≤ before.pages + growth before reply)
  -- none is added beyond what a database of the bounds needs
  pub bounded : (after.pages ≡ before.pages) ⊎ (after.pages ≤ home before.state.bounds)
  pub buckets : after.buckets ≡ before.buckets + buckets_added before reply (len after.state.map)
  pub answers : Answers before.state (case_of before call) reply after.state
      ⊎ Suffers before call (case_of before call) reply after

-- the calls may get these replies, one after another
abbrev pub Run : Handle → List Call → List Reply → Handle → Type 0
Run before [] [] after = after ≡ before
Run before (call ∷ calls) (reply ∷ replies) after =
    (mid : Handle) × Step before call reply mid × Run mid calls replies after
Run before [] (reply ∷ replies) after = ⊥
Run before (call ∷ calls) [] after = ⊥
