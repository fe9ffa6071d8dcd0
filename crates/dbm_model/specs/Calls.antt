-- The calls on an open database and their replies (POSIX.1-2017, dbm_clearerr).
use Rattle.std.specs.Prelude.{ℕ, List, Bool, true, false}
use Rattle.dbm_model.specs.Pairs.{Key}

-- what a store does where the key is there (POSIX: DBM_INSERT, DBM_REPLACE)
pub data Mode : Type 0 where
  Insert : Mode
  Replace : Mode

pub data Fault : Type 0 where
  Memory : Fault
  Device : Fault
  Broken : Fault
  ReadOnly : Fault
  TooLong : Fault
  Full : Fault
  NoPass : Fault
  NoRoom : Fault
  Damaged : Fault
  NotADatabase : Fault
  Version : Fault
  TooSmall : Fault
  BadLimit : Fault
  Missing : Fault
  Exists : Fault

-- the number by which a fault is told
abbrev pub number_of : Fault → ℕ
number_of Memory = 1
number_of Device = 2
number_of Broken = 3
number_of ReadOnly = 4
number_of TooLong = 5
number_of Full = 6
number_of NoPass = 7
number_of NoRoom = 8
number_of Damaged = 9
number_of NotADatabase = 10
number_of Version = 11
number_of TooSmall = 12
number_of BadLimit = 13
number_of Missing = 14
number_of Exists = 15

-- dbm_store, dbm_fetch, dbm_delete, dbm_firstkey, dbm_nextkey, dbm_error, dbm_clearerr; and to
-- version 2
pub data Call : Type 0 where
  Store : Key → List ℕ → Mode → Call
  Fetch : Key → Call
  Delete : Key → Call
  First : Call
  Next : Call
  Error : Call
  Clear : Call
  Upgrade : Call

pub data Reply : Type 0 where
  -- dbm_store: 0, and 1 where an insert found the key
  Stored : Reply
  Kept : Reply
  -- dbm_delete: 0, and a negative value where the key is not there
  Deleted : Reply
  Absent : Reply
  -- a content or a key
  Bytes : List ℕ → Reply
  -- a fetch of a key that is not there
  NoRecord : Reply
  -- the end of a pass
  End : Reply
  -- dbm_error, dbm_clearerr
  Number : ℕ → Reply
  -- the file is of version 2
  Upgraded : Reply
  Refused : Fault → Reply

-- a call that may change what the file stands for
abbrev pub is_changing : Call → Bool
is_changing (Store key content mode) = true
is_changing (Delete key) = true
is_changing Upgrade = true
is_changing _ = false

-- the answer after which a change is there for good
abbrev pub is_acknowledged : Reply → Bool
is_acknowledged Stored = true
is_acknowledged Deleted = true
is_acknowledged Upgraded = true
is_acknowledged _ = false
