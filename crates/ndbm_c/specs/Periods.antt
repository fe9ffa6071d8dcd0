-- Periods of handles that share a file, as C makes them of the exports: a handle has the database that
-- the file has then, makes one call of it, and what that lists is carried out before it is answered.
use Rattle.std.specs.Prelude.{◌≡◌, ◌≢◌, ◌⊎◌, ◌≤◌, ◌++◌, ℕ, ℤ, pos, zero, suc, Bool, true, false, List, [], ◌∷◌, length, Option, Some, None}
use Rattle.sect_dev.specs.History.{content_after, IsCandidate}
use Rattle.sect_dev.specs.Serving.{IsTrueOf}
use Rattle.sect_dev.specs.declared.past.Event.{Event}
use Rattle.sect_dev.specs.declared.past.Event.TheVariants.{Synced}
use Rattle.sect_dev.specs.declared.served.Told.{Told}
use Rattle.dbm_model.specs.Bounds.{Bounds}
use Rattle.dbm_model.specs.Calls.{Call, Store, Delete, First, Next, Upgrade, Fault, is_changing}
use Rattle.dbm_model.specs.Calls as calls
use Rattle.dbm_model.specs.Pairs.{Contents}
use Rattle.dbm_model.specs.States.{Pass, NotBegun, Begun, Behind, first_fault}
use Rattle.dbm_file.specs.Database.{page_state, error_of}
use Rattle.dbm_file.specs.Opened.{device_below}
use Rattle.dbm_sharing.specs.Anew.{kept_error}
use Rattle.dbm_sharing.specs.Views.{is_about_error}
use Rattle.file_opening.specs.declared.open_how.OpenHow.{OpenHow}
use Rattle.listed_dev.specs.Listed.{history}
use Rattle.listed_dev.specs.contracts.listed_dev.ListedDevSectorDev.TheImpl.{ghosts as served}
use Rattle.listed_dev.specs.declared.listed_dev.ListedDev.{ListedDev}
use Rattle.ndbm_calls.specs.Statuses.{refusal_of}
use Rattle.ndbm_c.specs.Held.{Calls, Resumes, Upgrades}
use Rattle.ndbm_c.specs.Holders.{Holder, SharedFile, own_error, FileStands, IsSynced, IsSameFile}
use Rattle.ndbm_c.specs.Looks.{Clears}
use Rattle.ndbm_c.specs.Opening.{how_of, IsOver, IsOpening, OpensAs}
use Rattle.ndbm_c.specs.Serving.{ToldDevice, ToldDatabase}
use Rattle.ndbm_c.specs.declared.handle.Open.TheVariants.{Device}
use Rattle.ndbm_c.specs.declared.handle.Opened.{Opened}
use Rattle.ndbm_c.specs.declared.how.How.{How}
use Rattle.ndbm_c.specs.declared.how.ServedFile.{ServedFile}

-- ---- what is made again

-- one after another, from the first to the last
abbrev pub Through : {X : Type 0} → (X → X → Type 0) → X → List X → X → Type 0
Through Goes first [] last = last ≡ first
Through Goes first (next ∷ rest) last = Goes first next × Through Goes next rest last

-- a device, or the one of a database, was told something that is true of the file
abbrev pub TellsDevice : ListedDev → ListedDev → Type 0
TellsDevice old new = (told : Told) × IsTrueOf (served.seen old) told × ToldDevice told old new

abbrev pub TellsDatabase : Opened → Opened → Type 0
TellsDatabase old new =
    (told : Told) × IsTrueOf (served.seen (device_below old.db)) told × ToldDatabase told old new

-- an opening was refused, as where the device lacks a sector, or the device was told something
abbrev pub TriesToOpen : OpenHow → ListedDev → ListedDev → Type 0
TriesToOpen how old new =
    ((status : ℤ) × OpensAs how (Device old) (Device new) status) ⊎ TellsDevice old new

-- the call of the database, with this status and these bytes
abbrev pub Makes : Call → ℤ → List ℕ → Opened → Opened → Type 0
Makes Upgrade status bytes old new = Upgrades status old new × (bytes ≡ [])
Makes call status bytes old new = Calls call status bytes old new

-- the error of a call that lacked a sector is forgotten, where there was none before
abbrev pub Forgets : Option Fault → Opened → Opened → Type 0
Forgets None old new = Clears (pos 0) old new
Forgets (Some earlier) old new = new ≡ old

-- The call lacked a sector, and was told that one and others.
pub record Lacks (call : Call) (old new : Opened) : Type 0 where
  pub refused : Opened
  pub lacks : Makes call (refusal_of calls.Device) [] old refused
  pub usable : (page_state refused.db).usable ≡ true
  pub telling : List Opened
  pub told : Opened
  pub tells : Through TellsDatabase refused telling told
  pub forgets : Forgets (error_of old.db) told new

-- ---- the database of a handle

-- a pass that stands behind a key goes on behind that
abbrev pub TakesPass : Pass → Opened → Opened → Type 0
TakesPass (Behind key) old new = Resumes key (pos 0) old new
TakesPass pass old new = new ≡ old

-- It goes on with its own, where the file shows what the device of that shows.
pub record GoesOn (past : List Event) (holder : Holder) (ready : Opened) : Type 0 where
  pub own : holder.held ≡ Some ready
  pub usable : (page_state ready.db).usable ≡ true
  pub unchanged : (n : ℕ) → n ≢ 1
      → served.seen (device_below ready.db) n ≡ content_after past n

-- a file that a writer has left is synced before it is read
abbrev pub found : Bool → Bool → List Event → List Event
found false true past = Synced ∷ past
found writes is_left past = past

-- It begins anew over the file, with the past that this has, and opens it, after openings that lacked a
-- sector. There is a database, which is neither made nor emptied.
pub record BeginsAnew (sectors : ℕ) (past : List Event) (is_left : Bool) (pass : Pass)
    (ready : Opened) : Type 0 where
  pub how : How
  pub file : ServedFile
  pub size : file.sectors ≡ sectors
  pub same : IsSameFile file.past.events (found how.writable is_left past)
  pub one_turn : (content : List ℕ) → IsCandidate file.past.events 1 content
      → content ≡ content_after file.past.events 1
  pub begun : ListedDev
  pub is_over : IsOver file begun
  pub there : (how.create ≡ false) × (how.truncate ≡ false)
  pub tries : List ListedDev
  pub dev : ListedDev
  pub tried : Through (TriesToOpen (how_of how)) begun tries dev
  pub opened : Opened
  pub opens : IsOpening (how_of how) dev opened
  -- it is told that what the opening listed is carried out
  pub telling : List Opened
  pub told : Opened
  pub tells : Through TellsDatabase opened telling told
  pub takes : TakesPass pass told ready

-- one or the other, with the first fault of the databases that it had before
abbrev pub HasDatabase : ℕ → SharedFile → Holder → Opened → Option Fault → Type 0
HasDatabase sectors file holder ready error =
    (GoesOn file.past holder ready × (error ≡ holder.error))
    ⊎ (BeginsAnew sectors file.past file.is_left holder.pass ready × (error ≡ own_error holder))

-- ---- a period

-- The call that is made of the database: a pass that stands before all keys is begun anew.
abbrev pub made_of : Call → Pass → Call
made_of Next Begun = First
made_of call pass = call

-- where the pass stands behind it
abbrev pub passed : Call → ℤ → List ℕ → Pass → Pass
passed First (pos zero) bytes pass = Behind bytes
passed First (pos (suc zero)) bytes pass = Begun
passed Next (pos zero) bytes pass = Behind bytes
passed call status bytes pass = pass

-- the key of a pass is no longer than a key may be
abbrev pub IsShortKey : Call → List ℕ → Type 0
IsShortKey First bytes = length bytes ≤ 2026
IsShortKey Next bytes = length bytes ≤ 2026
IsShortKey call bytes = Unit {0}

-- What is listed was carried out, and nobody else wrote the file meanwhile, so its past is that of the
-- device. Under a lock that others have too, which is for reading, nothing is written.
pub record IsCarriedOut (before : SharedFile) (opened : Opened) (after : SharedFile) : Type 0 where
  pub carried : IsSameFile after.past (history (device_below opened.db))
  pub only_reads : (page_state opened.db).writable ≡ false → IsSameFile after.past before.past
  pub writes : (page_state opened.db).writable ≡ true → after.is_left ≡ false
  pub reads : (page_state opened.db).writable ≡ false → after.is_left ≡ before.is_left

-- all other handles have what they had
abbrev pub OthersStay : ℕ → SharedFile → SharedFile → Type 0
OthersStay who before after = (other : ℕ) → other ≢ who → after.holders other ≡ before.holders other

-- The handle has the database of the file, and lacks no sector for the call any more.
pub record IsAsked (sectors : ℕ) (before : SharedFile) (who : ℕ) (call : Call) : Type 0 where
  pub ready : Opened
  pub error : Option Fault
  pub has : HasDatabase sectors before (before.holders who) ready error
  pub of_pairs : is_about_error call ≡ false
  -- a change is made of a database that was opened as the handle was
  pub access : is_changing call ≡ true
      → (page_state ready.db).writable ≡ (before.holders who).writable
  pub tries : List Opened
  pub asked : Opened
  pub tried : Through (Lacks (made_of call (before.holders who).pass)) ready tries asked

-- a call was answered by this status and these bytes, and left the database usable
pub record IsCalled (sectors : ℕ) (before : SharedFile) (who : ℕ) (call : Call) (status : ℤ)
    (bytes : List ℕ) (after : SharedFile) : Type 0 where
  pub asks : IsAsked sectors before who call
  pub answered : Opened
  pub answers : Makes (made_of call (before.holders who).pass) status bytes asks.asked answered
  pub usable : (page_state answered.db).usable ≡ true
  pub short : status ≡ pos 0 → IsShortKey call bytes
  pub carried : IsCarriedOut before answered after
  -- it is told so
  pub telling : List Opened
  pub last : Opened
  pub told : Through TellsDatabase answered telling last
  pub ends : after.holders who ≡ record {
    held = Some last;
    error = asks.error;
    pass = passed (made_of call (before.holders who).pass) status bytes (before.holders who).pass;
    writable = (before.holders who).writable;
  }
  pub others : OthersStay who before after

-- what a handle has that has nothing yet
abbrev pub newcomer : Bool → Holder
newcomer writable = record { held = None; error = None; pass = NotBegun; writable = writable }

-- Of what was listed from one to the other a first part was carried out, and the rest never is.
pub record IsCarriedInPart (old new : Opened) (after : SharedFile) : Type 0 where
  pub never : List Event
  pub done : List Event
  pub in_order : history (device_below new.db) ≡ never ++ done
  pub within : length (history (device_below old.db)) ≤ length done
  pub carried : IsSameFile after.past done
  pub turn : after.is_left ≡ true

-- The program of a handle died within a call.
pub record IsCut (sectors : ℕ) (before : SharedFile) (who : ℕ) (call : Call)
    (after : SharedFile) : Type 0 where
  pub asks : IsAsked sectors before who call
  pub status : ℤ
  pub bytes : List ℕ
  pub cut : Opened
  pub makes : Makes (made_of call (before.holders who).pass) status bytes asks.asked cut
  pub carried : IsCarriedInPart asks.asked cut after
  pub gone : after.holders who ≡ newcomer (before.holders who).writable
  pub others : OthersStay who before after

-- a store, or a delete
abbrev pub IsOfPair : Call → Type 0
IsOfPair (Store key content mode) = Unit {0}
IsOfPair (Delete key) = Unit {0}
IsOfPair call = ⊥

-- The system refused a write or a sync that a change had listed. The handle has this error, and no
-- database any more.
pub record IsBroken (sectors : ℕ) (before : SharedFile) (who : ℕ) (call : Call)
    (after : SharedFile) : Type 0 where
  pub asks : IsAsked sectors before who call
  pub changes : IsOfPair call
  pub bytes : List ℕ
  pub cut : Opened
  pub makes : Makes (made_of call (before.holders who).pass) (pos 0) bytes asks.asked cut
  pub carried : IsCarriedInPart asks.asked cut after
  pub ends : after.holders who ≡ record {
    held = None;
    error = first_fault (kept_error asks.error (error_of asks.asked.db)) calls.Device;
    pass = (before.holders who).pass;
    writable = (before.holders who).writable;
  }
  pub others : OthersStay who before after

-- a handle was opened by this number, for changes or for reading
pub record IsBegun (sectors : ℕ) (before : SharedFile) (who : ℕ) (writable : Bool)
    (after : SharedFile) : Type 0 where
  pub ready : Opened
  pub begins : BeginsAnew sectors before.past before.is_left NotBegun ready
  pub carried : IsCarriedOut before ready after
  pub telling : List Opened
  pub last : Opened
  pub told : Through TellsDatabase ready telling last
  pub ends : after.holders who
      ≡ record { held = Some last; error = None; pass = NotBegun; writable = writable }
  pub others : OthersStay who before after

-- another file took the place of this one, which stands for this map
pub record IsRenamed (sectors : ℕ) (before : SharedFile) (map : Contents) (bounds : Bounds)
    (after : SharedFile) : Type 0 where
  pub stands : FileStands sectors after.past map bounds
  pub synced : IsSynced after.past
  pub turn : after.is_left ≡ false
  pub all_stay : (who : ℕ) → after.holders who ≡ before.holders who

pub data FilePeriod : Type 0 where
  Called : ℕ → Call → ℤ → List ℕ → FilePeriod
  Cut : ℕ → Call → FilePeriod
  Broken : ℕ → Call → FilePeriod
  Started : ℕ → Bool → FilePeriod
  Renamed : Contents → Bounds → FilePeriod

abbrev pub IsPeriod : ℕ → SharedFile → FilePeriod → SharedFile → Type 0
IsPeriod sectors before (Called who call status bytes) after =
    IsCalled sectors before who call status bytes after
IsPeriod sectors before (Cut who call) after = IsCut sectors before who call after
IsPeriod sectors before (Broken who call) after = IsBroken sectors before who call after
IsPeriod sectors before (Started who writable) after = IsBegun sectors before who writable after
IsPeriod sectors before (Renamed map bounds) after = IsRenamed sectors before map bounds after

-- one period after another
abbrev pub Periods : ℕ → SharedFile → List FilePeriod → SharedFile → Type 0
Periods sectors before [] after = after ≡ before
Periods sectors before (period ∷ periods) after =
    (mid : SharedFile) × IsPeriod sectors before period mid × Periods sectors mid periods after
