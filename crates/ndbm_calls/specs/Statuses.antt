-- What a status tells C.
use Rattle.std.specs.Prelude.{◌≡◌, ◌⊎◌, ℕ, ℤ, pos, neg_ℤ, List, Result, Ok, Err}
use Rattle.dbm_model.specs.Calls.{Call, Upgrade, Reply, Fault, number_of, Stored, Kept, Deleted, Absent, Bytes, NoRecord, End, Number, Upgraded, Refused}
use Rattle.dbm_model.specs.States.{Handle}
use Rattle.page_io.specs.declared.store.PageStore.{Ghosts}
use Rattle.dbm_fault.specs.Faults.{fault_of}
use Rattle.dbm_fault.specs.declared.fault.Fault as code
use Rattle.dbm_model.specs.Changes.{bounds_after}
use Rattle.dbm_file.specs.Answers.{IsStep, IsCallEnded, IsCallEndedWith}
use Rattle.dbm_file.specs.Calls.{upgrade_reply}
use Rattle.dbm_file.specs.Database.{meta_kept, AtEachHandle}
use Rattle.dbm_file.specs.declared.database.Database.{Database}

-- a refusal: minus the number of the fault
abbrev pub refusal_of : Fault → ℤ
refusal_of fault = neg_ℤ (pos (number_of fault))

-- a reply: 0 where it is done or bytes are given, 1 where what was asked for isn't there
abbrev pub status_of : Reply → ℤ
status_of Stored = pos 0
status_of Kept = pos 1
status_of Deleted = pos 0
status_of Absent = pos 1
status_of (Bytes bytes) = pos 0
status_of NoRecord = pos 1
status_of End = pos 1
status_of (Number number) = pos number
status_of Upgraded = pos 0
status_of (Refused fault) = refusal_of fault

-- the bytes that a reply has are these
abbrev pub GivesBytes : Reply → List ℕ → Type 0
GivesBytes (Bytes bytes) given = given ≡ bytes
GivesBytes other given = Unit

-- the call is a step of the model, its reply is told by the status, and the bytes are the reply's
abbrev pub IsTold : {S : Type 0} {s : Ghosts S} → Database S s → Database S s → Handle → Call → ℤ
    → List ℕ → Type 0
IsTold old new h call status bytes =
    (reply : Reply) × (status ≡ status_of reply) × GivesBytes reply bytes
    × IsStep old new h call reply

-- 0 where it is done, else the fault
abbrev pub DoneTells : Result Unit code.Fault → ℤ → Type 0
DoneTells (Ok done) status = status ≡ pos 0
DoneTells (Err fault) status = status ≡ refusal_of (fault_of fault)

-- 0 or 1 where it is answered, else the fault
abbrev pub AnswerTells : Result Unit code.Fault → ℤ → Type 0
AnswerTells (Ok done) status = (status ≡ pos 0) ⊎ (status ≡ pos 1)
AnswerTells (Err fault) status = status ≡ refusal_of (fault_of fault)

-- on any device: the call ended as one that answers so
pub record IsEnded {S : Type 0} {s : Ghosts S} (old new : Database S s) (status : ℤ) : Type 0 where
  pub answer : Result Unit code.Fault
  pub ended : IsCallEnded old new answer
  pub told : AnswerTells answer status

-- on any device: the call ended as one that is done or refused
pub record IsDone {S : Type 0} {s : Ghosts S} (old new : Database S s) (status : ℤ) : Type 0 where
  pub answer : Result Unit code.Fault
  pub ended : IsCallEnded old new answer
  pub told : DoneTells answer status

-- on any device: an upgrade ended as one of `dbm_file` does
pub record IsRaised {S : Type 0} {s : Ghosts S} (old new : Database S s) (status : ℤ) : Type 0 where
  pub answer : Result Unit code.Fault
  pub ended : IsCallEndedWith
      (bounds_after (meta_kept old).bounds Upgrade (upgrade_reply answer)) old new answer
  pub told : DoneTells answer status

-- The call was made and is told by the status, with these bytes where it gives some.
pub record IsAnswered {S : Type 0} {s : Ghosts S} (old new : Database S s) (call : Call)
    (status : ℤ) (bytes : List ℕ) : Type 0 where
  pub step : AtEachHandle old (λ h. IsTold old new h call status bytes)
  pub ends : IsEnded old new status
