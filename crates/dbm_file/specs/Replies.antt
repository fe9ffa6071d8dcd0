-- Which replies a call may get on any device, and what it then leaves, whatever the bytes are.
use Rattle.std.specs.Prelude.{◌≡◌, pos, List, [], ◌∷◌, None, Some, Result, Ok, Err}
use Rattle.dbm_fault.specs.Among.{IsAmong}
use Rattle.dbm_fault.specs.declared.fault.Fault.{Fault}
use Rattle.dbm_fault.specs.declared.fault.Fault.TheVariants.{Memory, Device, Broken, ReadOnly, TooLong, Full, NoPass, NoRoom, Damaged, TooSmall}
use Rattle.dbm_model.specs.Bounds.{Bounds, V1}
use Rattle.dbm_model.specs.Changes.{bounds_after}
use Rattle.dbm_model.specs.States.{Begun, error_number}
use Rattle.page_io.specs.declared.store.PageStore.{Ghosts}
use Rattle.page_io.specs.Views.{body_at}
use Rattle.bucket_chain.specs.Walks.{EndsWithout}
use Rattle.dbm_file.specs.Answers.{IsCallEndedWith}
use Rattle.dbm_file.specs.Calls.{call_of, reply_of, Lent}
use Rattle.dbm_file.specs.Changing.{WasDeleted, WasStored, WasUpgraded}
use Rattle.dbm_file.specs.Passing.{pass_of}
use Rattle.dbm_file.specs.Database.{store_of, meta_kept, error_of}
use Rattle.dbm_file.specs.Searches.{Searched, EndsWith, EndsAtContent, Passed, WentOn}
use Rattle.dbm_file.specs.declared.calls.Call.{Call}
use Rattle.dbm_file.specs.declared.calls.Call.TheVariants.{Store, Fetch, Delete, First, Next, Error, Clear, Upgrade}
use Rattle.dbm_file.specs.declared.calls.Reply.{Reply}
use Rattle.dbm_file.specs.declared.calls.Reply.TheVariants.{Stored, Kept, Deleted, Absent, Bytes, NoRecord, End, Number, Upgraded, Refused}
use Rattle.dbm_file.specs.declared.calls.StoreMode.TheVariants.{Insert}
use Rattle.dbm_file.specs.declared.calls.StoreReply.{StoreReply}
use Rattle.dbm_file.specs.declared.calls.StoreReply.TheVariants as stored
use Rattle.dbm_file.specs.declared.calls.DeleteReply.{DeleteReply}
use Rattle.dbm_file.specs.declared.calls.DeleteReply.TheVariants as deleted
use Rattle.dbm_file.specs.declared.database.Database.{Database}

-- the faults by which a delete may be refused, and those of a store
abbrev pub delete_faults : List Fault
delete_faults = Broken ∷ ReadOnly ∷ Memory ∷ Device ∷ NoRoom ∷ Damaged ∷ []

abbrev pub store_faults : List Fault
store_faults = Broken ∷ ReadOnly ∷ TooLong ∷ Full ∷ Memory ∷ Device ∷ NoRoom ∷ Damaged ∷ []

-- those of an upgrade
abbrev pub upgrade_faults : List Fault
upgrade_faults = Broken ∷ ReadOnly ∷ TooSmall ∷ Device ∷ NoRoom ∷ []

-- those of a fetch
abbrev pub fetch_faults : List Fault
fetch_faults = Broken ∷ Memory ∷ Device ∷ Damaged ∷ []

-- those of another call that reads
abbrev pub read_faults : List Fault
read_faults = Broken ∷ Device ∷ Damaged ∷ []

abbrev pub next_faults : List Fault
next_faults = Broken ∷ NoPass ∷ Device ∷ Damaged ∷ []

-- bytes, or this reply where there are none, or a refusal by one of these faults
abbrev pub IsBytesOr : Reply → List Fault → Reply → Type 0
IsBytesOr none faults (Bytes bytes) = Unit {0}
IsBytesOr none faults (Refused fault) = IsAmong fault faults
IsBytesOr none faults reply = reply ≡ none

-- a reply to this call
abbrev pub IsReplyTo : Call → Reply → Type 0
IsReplyTo (Store key content mode) Stored = Unit {0}
IsReplyTo (Store key content mode) Kept = mode ≡ Insert
IsReplyTo (Store key content mode) (Refused fault) = IsAmong fault store_faults
IsReplyTo (Delete key) Deleted = Unit {0}
IsReplyTo (Delete key) Absent = Unit {0}
IsReplyTo (Delete key) (Refused fault) = IsAmong fault delete_faults
IsReplyTo (Fetch key) reply = IsBytesOr NoRecord fetch_faults reply
IsReplyTo First reply = IsBytesOr End read_faults reply
IsReplyTo Next reply = IsBytesOr End next_faults reply
IsReplyTo Upgrade Upgraded = Unit {0}
IsReplyTo Upgrade (Refused fault) = IsAmong fault upgrade_faults
IsReplyTo _ reply = ⊥

-- how a store, a delete and an upgrade are told
abbrev pub told_of_store : Result StoreReply Fault → Reply
told_of_store (Ok stored.Stored) = Stored
told_of_store (Ok stored.Kept) = Kept
told_of_store (Err fault) = Refused fault

abbrev pub told_of_delete : Result DeleteReply Fault → Reply
told_of_delete (Ok deleted.Deleted) = Deleted
told_of_delete (Ok deleted.Absent) = Absent
told_of_delete (Err fault) = Refused fault

abbrev pub told_of_upgrade : Result Unit Fault → Reply
told_of_upgrade (Ok done) = Upgraded
told_of_upgrade (Err fault) = Refused fault

-- and bytes, or this reply where there are none
abbrev pub told_of_bytes : Reply → Lent → Reply
told_of_bytes none (Ok None) = none
told_of_bytes none (Ok (Some bytes)) = Bytes bytes.now
told_of_bytes none (Err fault) = Refused fault

-- whether a call was refused, and by which fault
abbrev pub refusal : Reply → Result Unit Fault
refusal (Refused fault) = Err fault
refusal reply = Ok tt

-- what was read of the file, over an honest store, before a call was answered so; a change and a
-- refusal tell nothing of it
abbrev pub WasRead : {S : Type 0} {s : Ghosts S} → Database S s → Call → Reply → Type 0
WasRead db (Store key content mode) Kept = Searched db key (EndsWith key)
WasRead db (Delete key) Absent = Searched db key (EndsWithout key)
WasRead {S} {s} db (Fetch key) NoRecord =
    Searched db key (EndsAtContent (body_at s (store_of db)) key None)
WasRead {S} {s} db (Fetch key) (Bytes content) =
    Searched db key (EndsAtContent (body_at s (store_of db)) key (Some content))
WasRead db First End = Passed db Begun None
WasRead db First (Bytes key) = Passed db Begun (Some key)
WasRead db Next End = WentOn db None
WasRead db Next (Bytes key) = WentOn db (Some key)
WasRead db call reply = Unit {0}

-- what was written of the file, over an honest store, by a call that was answered so
abbrev pub WasDone : {S : Type 0} {s : Ghosts S} → Database S s → Database S s → Call
    → Reply → Type 0
WasDone old new (Store key content mode) Stored = WasStored old new (key, content)
WasDone old new (Delete key) Deleted = WasDeleted old new key
WasDone old new Upgrade Upgraded = (meta_kept old).bounds.version ≡ V1 → WasUpgraded old new
WasDone old new call reply = Unit {0}

-- the error number was told, and nothing changed
abbrev pub IsErrorTold : {S : Type 0} {s : Ghosts S} → Database S s → Database S s → Reply → Type 0
IsErrorTold old new reply = (reply ≡ Number (pos (error_number (error_of old)))) × (new ≡ old)

-- the error was forgotten, and nothing else changed
pub record IsErrorCleared {S : Type 0} {s : Ghosts S} (old new : Database S s)
    (reply : Reply) : Type 0 where
  pub zero : reply ≡ Number (pos 0)
  pub cleared : error_of new ≡ None
  pub still : store_of new ≡ store_of old
  pub kept : meta_kept new ≡ meta_kept old
  pub pass : pass_of new ≡ pass_of old

-- any other call was answered by a reply to it
pub record IsCallAnswered {S : Type 0} {s : Ghosts S} (old new : Database S s) (call : Call)
    (reply : Reply) : Type 0 where
  pub replied : IsReplyTo call reply
  pub read : WasRead old call reply
  pub done : WasDone old new call reply
  pub keeps : IsCallEndedWith (bounds_after (meta_kept old).bounds (call_of call) (reply_of reply))
      old new (refusal reply)

abbrev pub IsAnswered : {S : Type 0} {s : Ghosts S} → Database S s → Database S s → Call
    → Reply → Type 0
IsAnswered old new Error reply = IsErrorTold old new reply
IsAnswered old new Clear reply = IsErrorCleared old new reply
IsAnswered old new call reply = IsCallAnswered old new call reply

-- the calls were answered so, one after another
abbrev pub AreAnswered : {S : Type 0} {s : Ghosts S} → Database S s → Database S s → List Call
    → List Reply → Type 0
AreAnswered old new [] [] = new ≡ old
AreAnswered {S} {s} old new (call ∷ calls) (reply ∷ replies) =
    (mid : Database S s) × IsAnswered old mid call reply × AreAnswered mid new calls replies
AreAnswered old new [] (reply ∷ replies) = ⊥
AreAnswered old new (call ∷ calls) [] = ⊥

-- the bounds behind calls that were answered so
abbrev pub bounds_behind : Bounds → List Call → List Reply → Bounds
bounds_behind bounds (call ∷ calls) (reply ∷ replies) =
    bounds_behind (bounds_after bounds (call_of call) (reply_of reply)) calls replies
bounds_behind bounds [] replies = bounds
bounds_behind bounds (call ∷ calls) [] = bounds
