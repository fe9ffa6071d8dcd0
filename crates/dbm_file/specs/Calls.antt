-- The program's calls and replies as those of the definitions.
use Rattle.std.specs.Prelude.{List, ℕ, ◌-◌, ◌^◌, ℤ, pos, negsuc, Option, Some, None, Result, Ok, Err}
use Rattle.std.specs.Borrow.{Bor}
use Rattle.dbm_model.specs.Calls as model
use Rattle.dbm_fault.specs.Faults.{fault_of}
use Rattle.dbm_fault.specs.declared.fault.Fault.{Fault}
use Rattle.dbm_file.specs.declared.calls.StoreMode.{StoreMode}
use Rattle.dbm_file.specs.declared.calls.StoreMode.TheVariants.{Insert, Replace}
use Rattle.dbm_file.specs.declared.calls.StoreReply.{StoreReply}
use Rattle.dbm_file.specs.declared.calls.StoreReply.TheVariants as stored
use Rattle.dbm_file.specs.declared.calls.DeleteReply.{DeleteReply}
use Rattle.dbm_file.specs.declared.calls.DeleteReply.TheVariants as deleted
use Rattle.dbm_file.specs.declared.calls.Call.{Call}
use Rattle.dbm_file.specs.declared.calls.Call.TheVariants.{Store, Fetch, Delete, First, Next, Error, Clear, Upgrade}
use Rattle.dbm_file.specs.declared.calls.Reply.{Reply}
use Rattle.dbm_file.specs.declared.calls.Reply.TheVariants.{Stored, Kept, Deleted, Absent, Bytes, NoRecord, End, Number, Upgraded, Refused}

abbrev pub mode_of : StoreMode → model.Mode
mode_of Insert = model.Insert
mode_of Replace = model.Replace

abbrev pub call_of : Call → model.Call
call_of (Store key content mode) = model.Store key content (mode_of mode)
call_of (Fetch key) = model.Fetch key
call_of (Delete key) = model.Delete key
call_of First = model.First
call_of Next = model.Next
call_of Error = model.Error
call_of Clear = model.Clear
call_of Upgrade = model.Upgrade

-- a number by its 32 bits, so that no negative one is taken for another
abbrev pub bits_of : ℤ → ℕ
bits_of (pos n) = n
bits_of (negsuc n) = 2 ^ 32 - 1 - n

abbrev pub reply_of : Reply → model.Reply
reply_of Stored = model.Stored
reply_of Kept = model.Kept
reply_of Deleted = model.Deleted
reply_of Absent = model.Absent
reply_of (Bytes bytes) = model.Bytes bytes
reply_of NoRecord = model.NoRecord
reply_of End = model.End
reply_of (Number number) = model.Number (bits_of number)
reply_of Upgraded = model.Upgraded
reply_of (Refused fault) = model.Refused (fault_of fault)

-- a content or a key that lies in the database, or none
abbrev pub Lent : Type 0
Lent = Result (Option (Bor (List ℕ))) Fault

-- its bytes alone
abbrev pub seen : Option (Bor (List ℕ)) → Option (List ℕ)
seen None = None
seen (Some bytes) = Some bytes.now

-- what a store answers
abbrev pub store_reply : Result StoreReply Fault → model.Reply
store_reply (Ok stored.Stored) = model.Stored
store_reply (Ok stored.Kept) = model.Kept
store_reply (Err fault) = model.Refused (fault_of fault)

-- what a delete answers
abbrev pub delete_reply : Result DeleteReply Fault → model.Reply
delete_reply (Ok deleted.Deleted) = model.Deleted
delete_reply (Ok deleted.Absent) = model.Absent
delete_reply (Err fault) = model.Refused (fault_of fault)

-- what an upgrade answers
abbrev pub upgrade_reply : Result Unit Fault → model.Reply
upgrade_reply (Ok done) = model.Upgraded
upgrade_reply (Err fault) = model.Refused (fault_of fault)

-- what a call answers that lends bytes, where this is its answer for none
abbrev pub lent_reply : model.Reply → Lent → model.Reply
lent_reply none (Ok None) = none
lent_reply none (Ok (Some bytes)) = model.Bytes bytes.now
lent_reply none (Err fault) = model.Refused (fault_of fault)
